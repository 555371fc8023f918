use Rattle.std.proofs.Common.{◌<◌}
use Rattle.std.proofs.lemmas.List.Elements.{recursion_from_All}
use Rattle.hs_fold.proofs.Shards.DeedLemmas.{deed-step, deeds-step}
use Rattle.hs_fold.proofs.histories.histories_change_the_store.Goals as goal

pub returns-clause-entry : goal.returns-clause-entry
returns-clause-entry c = λ set cs deed all low mine. deed-step set deed cs all low mine

pub returns-clause-history : goal.returns-clause-history
returns-clause-history c = λ set cs deeds all of mine. deeds-step set deeds cs all (recursion_from_All (λ deed. deed.shard < set.shape.shards) deeds of) mine
