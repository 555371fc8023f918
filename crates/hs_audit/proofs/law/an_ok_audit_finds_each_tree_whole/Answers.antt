use Rattle.hs_audit.proofs.LawLemmas.{are_distinct, sound_is_ok, tree_is_whole}
use Rattle.hs_fold.specs.Runs.Opened.{catalogues, store_of}
use Rattle.hs_audit.proofs.law.an_ok_audit_finds_each_tree_whole.Goals as goal

pub returns-clause-whole : goal.returns-clause-whole
returns-clause-whole c = λ set lists root ok there kept. tree_is_whole (store_of (catalogues set 0 lists)) root (are_distinct (catalogues set 0 lists)) ok there kept

pub returns-clause-sound : goal.returns-clause-sound
returns-clause-sound c = λ set lists sound. sound_is_ok (store_of (catalogues set 0 lists)) (are_distinct (catalogues set 0 lists)) sound.valid
