use Rattle.std.proofs.Common.{arith}
use Rattle.hs_standing.proofs.LinesLineLemmas.{all_come, first_next, line_passes, lines_begin, opening_goes}
use Rattle.hs_standing.specs.Script.{all_events}
use Rattle.hs_standing.proofs.coming.a_scripts_events_may_come.Goals as goal

pub returns-clause-opening : goal.returns-clause-opening
returns-clause-opening c = λ commands whole core es to none zero rise walks.
    all_come commands core es core.moment to (λ going. omega arith) rise (opening_goes commands whole core es none zero walks).begin

pub returns-clause-first : goal.returns-clause-first
returns-clause-first c = λ commands whole core es none zero walks. first_next commands whole core es none zero walks

pub returns-clause-line : goal.returns-clause-line
returns-clause-line c = λ name commands at to its rise are.
    all_come commands at.core at.events at.core.moment to (λ going. omega arith) rise (line_passes commands name at its are).begin

pub returns-clause-lines : goal.returns-clause-lines
returns-clause-lines c = λ s line core lines to its rise are.
    all_come s.commands core (all_events lines) core.moment to (λ going. omega arith) rise (lines_begin s line core lines its are)
