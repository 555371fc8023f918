use Rattle.std.proofs.Common.{◌≡◌, ◌∙◌, ap, refl, ◌<◌, arith}
use Rattle.hs_replica.specs.Counting.{at_epoch, count_at}
use Rattle.hs_replica.proofs.StoreLemmas.{clear_none, clear_some}
use Rattle.hs_replica.proofs.stores.clear.Goals as goal

pub returns-then-count-eq0 : goal.returns-then-count-eq0
returns-then-count-eq0 c =
    let line = c.args.line in
    let counts = c.args.counts.now in
    let same : c.count.result ≡ count_at counts (at_epoch line) = c.count.ensures ∙ ap (count_at counts) c.place_of.ensures in
    let zero : count_at counts (at_epoch line) ≡ 0 = omega (arith, same, c.if-count-eq0.true) in
    clear_none counts line c.args.lines.now c.remove.new.self zero c.remove.ensures

pub returns-else-count-eq0 : goal.returns-else-count-eq0
returns-else-count-eq0 c =
    let line = c.args.line in
    let counts = c.args.counts.now in
    let same : c.count.result ≡ count_at counts (at_epoch line) = c.count.ensures ∙ ap (count_at counts) c.place_of.ensures in
    let up : 0 < count_at counts (at_epoch line) = omega (arith, same, c.if-count-eq0.false) in
    clear_some counts line c.args.lines.now c.args.lines.now up refl
