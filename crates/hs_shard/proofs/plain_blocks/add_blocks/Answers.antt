use Rattle.std.proofs.Common.{◌∙◌}
use Rattle.hs_shard.proofs.PlainLemmas.{block_added}
use Rattle.hs_shard.proofs.plain_blocks.add_blocks.Goals as goal

pub loop-address-preserved-in_ok-insert : goal.loop-address-preserved-in_ok-insert
loop-address-preserved-in_ok-insert c =
    block_added c.loop-address.address-iterator c.next.new.self c.in-Some.address.now c.in-Some.facts.now c.loop-address.outlines.entries c.insert.new.self.entries c.in_ok-copy.field-0
    c.in-Some.ensures.steps c.in_ok-copy.ensures c.in_ok-insert.ensures.entries
    ∙ c.loop-address.invariant

pub loop-address-preserved : goal.loop-address-preserved
loop-address-preserved c =
    block_added c.loop-address.address-iterator c.next.new.self c.in-Some.address.now c.in-Some.facts.now c.loop-address.outlines.entries c.insert.new.self.entries c.in_ok-copy.field-0
    c.in-Some.ensures.steps c.in_ok-copy.ensures c.in_ok-insert.ensures.entries
    ∙ c.loop-address.invariant
