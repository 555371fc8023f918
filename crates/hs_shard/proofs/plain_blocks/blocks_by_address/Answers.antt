use Rattle.std.proofs.Common.{List, sym, subst}
use Rattle.hs_model.specs.declared.plain.PlainBlock.{PlainBlock}
use Rattle.hs_shard.specs.Adding.{AscendBlocks}
use Rattle.hs_shard.proofs.PlainLemmas.{block_taken}
use Rattle.hs_shard.proofs.plain_blocks.blocks_by_address.Goals as goal

pub loop-block-preserved-in_ok-insert : goal.loop-block-preserved-in_ok-insert
loop-block-preserved-in_ok-insert c =
    block_taken c.into_vec-rest.result.items c.loop-block.rest.items c.pop.new.self.items c.in-Some.block c.loop-block.outlines.entries c.insert.new.self.entries
    (subst (λ (z : List PlainBlock). AscendBlocks z) (sym c.into_vec-rest.ensures) c.requires) c.in-Some.ensures.items c.loop-block.invariant c.in_ok-insert.ensures.entries

pub loop-block-preserved : goal.loop-block-preserved
loop-block-preserved c =
    block_taken c.into_vec-rest.result.items c.loop-block.rest.items c.pop.new.self.items c.in-Some.block c.loop-block.outlines.entries c.insert.new.self.entries
    (subst (λ (z : List PlainBlock). AscendBlocks z) (sym c.into_vec-rest.ensures) c.requires) c.in-Some.ensures.items c.loop-block.invariant c.in_ok-insert.ensures.entries
