use Rattle.std.proofs.Common.{◌<◌}
use Rattle.std.proofs.lemmas.List.Elements.{recursion_from_All}
use Rattle.hs_fold.proofs.Shards.DeedLemmas.{fold-at}
use Rattle.hs_fold.proofs.histories.shards_see_their_own.Goals as goal

pub returns : goal.returns
returns c = record { own = λ set cs deeds shard all of. fold-at set deeds cs shard all (recursion_from_All (λ deed. deed.shard < set.shape.shards) deeds of) }
