use Rattle.std.proofs.Common.{◌≡◌}
use Rattle.hs_shard.specs.Plain.{add_given}
use Rattle.hs_shard.proofs.plain_blocks.add_given.Given as goal

abbrev pub invariant-loop-address : goal.invariant-loop-address
invariant-loop-address l = add_given l.address-iterator l.epochs.entries ≡ add_given l.known.entries l.initial.epochs.entries
