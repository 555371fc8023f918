use Rattle.hs_answered.proofs.CoreLemmas.{answered, begun_answer}
use Rattle.hs_answered.proofs.answered.an_answer_is_the_judges.Goals as goal

pub returns-clause-answered : goal.returns-clause-answered
returns-clause-answered c = λ cs core line w r folded addressed place e.
    answered c.an_answer_by_the_view_is_the_stores.ensures c.bytes_are_answered_as_the_store_does.ensures.read cs core line w r folded addressed place e

pub returns-clause-begun : goal.returns-clause-begun
returns-clause-begun c = λ cs core line o r folded addressed free e.
    begun_answer c.an_answer_by_the_view_is_the_stores.ensures c.bytes_are_answered_as_the_store_does.ensures.read cs core line o r folded addressed free e
