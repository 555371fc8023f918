use Rattle.hs_answered.specs.Standing.{store_with}
use Rattle.hs_told.proofs.LineLemmas.{keeps_telling, takes_line}
use Rattle.hs_told.proofs.SaidLemmas.{asked_from_said}
use Rattle.hs_told.proofs.lines.a_line_is_told.Goals as goal

pub returns-clause-takes : goal.returns-clause-takes
returns-clause-takes c = λ commands cs core line moment o turn goes folded asked.
    takes_line c.a_step_that_answers_is_the_judges.ensures.first commands cs core line moment o turn folded asked goes

pub returns-clause-tells : goal.returns-clause-tells
returns-clause-tells c = λ by start cs core line moment o said turn goes folded limits line_is same before.
    keeps_telling c.a_step_that_answers_is_the_judges.ensures.first by.commands cs core line moment o turn folded (asked_from_said by.name (store_with cs core.sessions) said o same) by start said goes limits line_is same before
