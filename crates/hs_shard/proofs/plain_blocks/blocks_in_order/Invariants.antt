-- What is put already stands before what is left.
use Rattle.std.proofs.Common.{◌≡◌, ◌++◌}
use Rattle.hs_shard.specs.Adding.{listed_blocks, outlined}
use Rattle.hs_shard.proofs.plain_blocks.blocks_in_order.Given as goal

abbrev pub invariant-loop-address : goal.invariant-loop-address
invariant-loop-address l = listed_blocks l.list ++ outlined l.address-iterator ≡ outlined l.fn.outlines.entries
