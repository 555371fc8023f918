use Rattle.hs_answered.proofs.CoreLemmas.{reads_data, reads_true}
use Rattle.hs_answered.proofs.reading.a_read_is_the_judges.Goals as goal

pub returns-clause-whatever : goal.returns-clause-whatever
returns-clause-whatever c = λ cs core line bytes w name handle r folded addressed place is e.
    reads_data c.an_answer_by_the_view_is_the_stores.ensures c.bytes_are_answered_as_the_store_does.ensures.read cs core line bytes w name handle r folded addressed place is e

pub returns-clause-told : goal.returns-clause-told
returns-clause-told c = λ cs core line bytes w name handle r folded addressed place is true e.
    reads_true c.an_answer_by_the_view_is_the_stores.ensures c.bytes_are_answered_as_the_store_does.ensures.read cs core line bytes w name handle r folded addressed place is true e
