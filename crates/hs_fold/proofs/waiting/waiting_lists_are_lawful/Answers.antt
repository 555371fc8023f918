use Rattle.hs_laws.proofs.ValidLemmas.{valid_from_is, is_from_valid}
use Rattle.hs_fold.specs.Shards.Opened.{catalogues, store_of}
use Rattle.hs_fold.specs.Shards.Parted.{done_lists, whole_lists}
use Rattle.hs_fold.proofs.Shards.LawfulLemmas.{whole-valid, whole-lawful}
use Rattle.hs_fold.proofs.waiting.waiting_lists_are_lawful.Goals as goal

pub returns-clause-valid : goal.returns-clause-valid
returns-clause-valid c = λ set lists count waits valid.
    is_from_valid (store_of (catalogues set 0 (whole_lists lists))) (whole-valid set lists count waits (valid_from_is (store_of (catalogues set 0 (done_lists lists))) valid))

pub returns-clause-lawful : goal.returns-clause-lawful
returns-clause-lawful c = λ set lists count waits valid lawful. whole-lawful set lists count waits (valid_from_is (store_of (catalogues set 0 (done_lists lists))) valid) lawful
