use Rattle.hs_answered.proofs.CoreLemmas.{at_its_line, goes_on}
use Rattle.hs_answered.proofs.stepping.a_step_that_answers_is_the_judges.Goals as goal

pub returns-clause-first : goal.returns-clause-first
returns-clause-first c = λ cs core line o r folded asked free e.
    at_its_line cs core line o c.an_answer_by_the_view_is_the_stores.ensures c.bytes_are_answered_as_the_store_does.ensures.read r folded asked free e

pub returns-clause-later : goal.returns-clause-later
returns-clause-later c = λ cs core line w r folded addressed place e.
    goes_on c.an_answer_by_the_view_is_the_stores.ensures c.bytes_are_answered_as_the_store_does.ensures.read cs core line w r folded addressed place e
