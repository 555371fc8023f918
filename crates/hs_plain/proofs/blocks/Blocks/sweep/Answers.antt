use Rattle.std.proofs.Common.{◌<◌, ◌∙◌, sym, ap, arith, length}
use Rattle.std.proofs.lemmas.List.{length-set}
use Rattle.hs_plain.specs.Counted.{CountedBlocks}
use Rattle.hs_plain.proofs.CountLemmas.{counts-swept}
use Rattle.hs_plain.proofs.blocks.Blocks.sweep.Goals as goal

pub invariant_of-self : goal.invariant_of-self
invariant_of-self c =
    let counts = c.self.inside.counts.items in
    let shards = ap (λ (z : CountedBlocks). z.shards) c.self.view_is in
    let below : c.args.run.shard < length counts = omega (arith, shards, c.self.invariant.shards, c.requires.shard) in
    record {
      shape = c.self.invariant.shape;
      shards = length-set counts c.from.result c.count_blocks-count.result ∙ c.self.invariant.shards;
      counts = counts-swept c.args.run c.args.seen.now.keys c.self.inside.items.entries _ c.self.inside.shape.shards c.count_blocks-count.result c.from.result counts (c.requires.same ∙ sym shards) c.from.ensures below c.self.invariant.counts c.remove_blocks.ensures c.count_blocks-count.ensures;
    }
