use Rattle.hs_known_copies.proofs.CauseLemmas.{known_by}
use Rattle.hs_known_copies.proofs.causes.what_is_known_changes_by_its_cause.Goals as goal

pub returns : goal.returns
returns c = λ shard peer core copies event moment st own. known_by peer shard core copies event moment st own
