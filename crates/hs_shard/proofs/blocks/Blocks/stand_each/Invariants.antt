use Rattle.std.proofs.Common.{◌≡◌, drop}
use Rattle.hs_shard.specs.Listed.{stand_each}
use Rattle.hs_shard.proofs.blocks.Blocks.stand_each.Given as goal

abbrev pub invariant-loop-address : goal.invariant-loop-address
invariant-loop-address l = stand_each l.counted l.zero (drop l.address-index l.addresses) l.self ≡ stand_each l.counted l.zero l.addresses l.initial.self
