use Rattle.hs_answered.proofs.CoreLemmas.{writes_true}
use Rattle.hs_answered.proofs.writing.a_write_is_the_judges.Goals as goal

pub returns : goal.returns
returns c = λ cs core line bytes w name payload handles address r folded addressed place is true_bytes e.
    writes_true c.an_answer_by_the_view_is_the_stores.ensures c.bytes_are_answered_as_the_store_does.ensures.read c.bytes_are_answered_as_the_store_does.ensures.collision
    cs core line bytes w name payload handles address r folded addressed place is true_bytes e
