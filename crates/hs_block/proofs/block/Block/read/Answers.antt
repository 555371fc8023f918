use Rattle.std.proofs.Common.{arith}
use Rattle.hs_block.proofs.BlockLemmas.{is_found, is_read}
use Rattle.hs_block.proofs.block.Block.read.Goals as goal

pub returns-clause-found : goal.returns-clause-found
returns-clause-found c = is_found c.args.bytes.now c.block_of.result (λ i. omega (arith, c.type_inv.bytes i)) c.block_of.ensures

pub returns-clause-only : goal.returns-clause-only
returns-clause-only c = is_read c.args.bytes.now c.block_of.result c.block_of.ensures
