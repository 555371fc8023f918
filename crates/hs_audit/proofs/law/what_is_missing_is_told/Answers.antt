use Rattle.hs_audit.proofs.LawLemmas.{are_distinct, are_missing}
use Rattle.hs_fold.specs.Runs.Opened.{catalogues, store_of}
use Rattle.hs_audit.proofs.law.what_is_missing_is_told.Goals as goal

pub returns : goal.returns
returns c = λ set lists. are_missing (store_of (catalogues set 0 lists)) (are_distinct (catalogues set 0 lists))
