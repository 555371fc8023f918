-- What is not taken yet stands before what is.
use Rattle.std.proofs.Common.{◌≡◌, ◌++◌, vec_len}
use Rattle.hs_shard.specs.Adding.{listed_blocks, outlined}
use Rattle.hs_shard.proofs.plain_blocks.blocks_by_address.Given as goal

abbrev pub invariant-loop-block : goal.invariant-loop-block
invariant-loop-block l = listed_blocks l.rest.items ++ outlined l.outlines.entries ≡ listed_blocks l.initial.rest.items

abbrev pub decreases-loop-block : goal.decreases-loop-block
decreases-loop-block l = vec_len l.rest
