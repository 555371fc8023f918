use Rattle.std.proofs.Common.{◌≡◌, ◌∙◌, ap, ◌<◌, arith}
use Rattle.hs_replica.specs.Counting.{at_epoch, count_at}
use Rattle.hs_replica.proofs.StoreLemmas.{filed_removed, taken_out}
use Rattle.hs_replica.proofs.stores.Stores.remove.Goals as goal

pub invariant_of-self : goal.invariant_of-self
invariant_of-self c =
    let line = c.args.line in
    let counts = c.self.inside.counts in
    let same : c.count.result ≡ count_at counts (at_epoch line) = c.count.ensures ∙ ap (count_at counts) c.place_of-place.ensures in
    let up : 0 < count_at counts (at_epoch line) = omega (arith, same, c.if-count-eq0.false) in
    filed_removed line counts c.remove.new.self c.self.inside.lines c.clear.new.lines c.self.invariant
    (taken_out line c.place_of-place.result counts c.remove.new.self c.place_of-place.ensures c.remove.ensures up) c.clear.ensures

pub returns : goal.returns
returns c = rw (← c.self.view_is) (taken_out c.args.line c.place_of-place.result c.self.inside.counts c.remove.new.self c.place_of-place.ensures c.remove.ensures)
