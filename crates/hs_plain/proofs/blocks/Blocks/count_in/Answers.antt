use Rattle.std.proofs.Common.{◌<◌, ap, arith, length}
use Rattle.hs_plain.specs.Counted.{CountedBlocks}
use Rattle.hs_plain.proofs.CountLemmas.{count_at}
use Rattle.hs_plain.proofs.blocks.Blocks.count_in.Goals as goal

pub returns : goal.returns
returns c =
    let shards = ap (λ (z : CountedBlocks). z.shards) c.self.view_is in
    let below : c.args.shard < length c.self.inside.counts.items = omega (arith, shards, c.self.invariant.shards, c.requires) in
    rw (← c.self.view_is) (count_at c.self.inside.counts.items _ c.args.shard c.from.result c.index.result.now c.self.invariant.counts c.from.ensures below c.index.ensures)
