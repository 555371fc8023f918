use Rattle.std.proofs.Common.{◌<◌, ◌∙◌, ap, arith, length}
use Rattle.hs_plain.specs.Counted.{CountedRoots}
use Rattle.hs_plain.proofs.CountLemmas.{count_at}
use Rattle.hs_plain.proofs.RootLemmas.{retained_in_is}
use Rattle.hs_plain.proofs.roots.Roots.retained_in.Goals as goal

pub returns : goal.returns
returns c =
    let shards = ap (λ (z : CountedRoots). z.shards) c.self.view_is in
    let below : c.args.shard < length c.self.inside.counts.items = omega (arith, shards, c.self.invariant.shards, c.requires) in
    let here = count_at c.self.inside.counts.items _ c.args.shard c.from.result c.index.result.now c.self.invariant.counts c.from.ensures below c.index.ensures in
    rw (← c.self.view_is) (here ∙ retained_in_is c.self.inside.shape.shards c.args.shard c.self.inside.kept.entries c.self.inside.gone.items)
