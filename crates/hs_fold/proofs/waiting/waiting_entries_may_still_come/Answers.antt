use Rattle.hs_laws.proofs.ValidLemmas.{valid_from_is, is_from_valid}
use Rattle.hs_fold.specs.Shards.History.{follow}
use Rattle.hs_fold.specs.Shards.Opened.{store_of}
use Rattle.hs_fold.proofs.Shards.WaitLemmas.{deed-keeps, may-still, is-other}
use Rattle.hs_fold.proofs.waiting.waiting_entries_may_still_come.Goals as goal

pub returns-clause-valid : goal.returns-clause-valid
returns-clause-valid c = λ set cs deed all low mine valid may. is_from_valid (store_of (follow set cs deed)) (deed-keeps set deed cs all low mine (valid_from_is (store_of cs) valid) may).0

pub returns-clause-still : goal.returns-clause-still
returns-clause-still c = λ set front cs deed shard other all low mine valid may above names may_other.
    let on = (deed-keeps set deed cs all low mine (valid_from_is (store_of cs) valid) may).1 in
    may-still set deed cs all low mine on shard other (is-other set deed cs all low mine on front shard other above names) may_other
