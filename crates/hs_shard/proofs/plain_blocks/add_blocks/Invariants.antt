use Rattle.std.proofs.Common.{◌≡◌}
use Rattle.hs_shard.specs.Adding.{outlined}
use Rattle.hs_shard.specs.Plain.{add_blocks}
use Rattle.hs_shard.proofs.plain_blocks.add_blocks.Given as goal

abbrev pub invariant-loop-address : goal.invariant-loop-address
invariant-loop-address l = add_blocks l.address-iterator (outlined l.outlines.entries) ≡ add_blocks l.known.entries (outlined l.initial.outlines.entries)
