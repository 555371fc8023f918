use Rattle.std.proofs.Common.{◌≡◌, drop}
use Rattle.hs_shard.specs.Listed.{pointers_each}
use Rattle.hs_shard.specs.Tally.{count_all}
use Rattle.hs_shard.proofs.blocks.Blocks.tell.Given as goal

abbrev pub invariant-loop-address : goal.invariant-loop-address
invariant-loop-address l = count_all (pointers_each (drop l.address-index l.addresses) l.self) l.tally ≡ count_all (pointers_each l.addresses l.self) l.initial.tally
