use Rattle.std.proofs.Common.{arith}
use Rattle.hs_standing.proofs.LinesLineLemmas.{all_come, lines_begin}
use Rattle.hs_standing.proofs.NewLemmas.{line_new, lines_new, settle_new}
use Rattle.hs_standing.proofs.fresh.a_scripts_lines_are_new.Goals as goal
use Rattle.hs_standing.specs.Script.{all_events}

pub returns-clause-opening : goal.returns-clause-opening
returns-clause-opening c = λ name whole core es walks. settle_new name whole 0 core es walks

pub returns-clause-line : goal.returns-clause-line
returns-clause-line c = λ name commands at turn above are. line_new name commands at turn above are

pub returns-clause-lines : goal.returns-clause-lines
returns-clause-lines c = λ s line core lines to turn its rise are.
    lines_new s (λ d es. c.answers_stay_in_order.ensures.events s.commands d es) line core lines turn its
    (all_come s.commands core (all_events lines) core.moment to (λ going. omega arith) rise (lines_begin s line core lines its are)) are
