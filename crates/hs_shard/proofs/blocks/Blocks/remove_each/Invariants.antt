use Rattle.std.proofs.Common.{◌≡◌, drop}
use Rattle.hs_shard.specs.Listed.{remove_each}
use Rattle.hs_shard.proofs.blocks.Blocks.remove_each.Given as goal

abbrev pub invariant-loop-address : goal.invariant-loop-address
invariant-loop-address l = remove_each (drop l.address-index l.addresses) l.self ≡ remove_each l.addresses l.initial.self
