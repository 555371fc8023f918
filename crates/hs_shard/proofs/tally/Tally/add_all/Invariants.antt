use Rattle.std.proofs.Common.{◌≡◌, drop}
use Rattle.hs_shard.specs.Tally.{count_all}
use Rattle.hs_shard.proofs.tally.Tally.add_all.Given as goal

abbrev pub invariant-loop-address : goal.invariant-loop-address
invariant-loop-address l = count_all (drop l.address-index l.addresses) l.self ≡ count_all l.addresses l.initial.self
