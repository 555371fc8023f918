use Rattle.std.proofs.Common.{refl, slice_index}
use Rattle.std.proofs.Math.Nat.{mod-lt}
use Rattle.hs_limits.specs.Shape.{shard_of}
use Rattle.hs_deletion.proofs.history.the_store_has_a_layout.Goals as goal

pub returns : goal.returns
returns c = record { found = λ shards some. (record { shards = shards; home = shard_of shards; within = λ a. mod-lt (slice_index a.0 31) some }, refl, λ a. refl) }
