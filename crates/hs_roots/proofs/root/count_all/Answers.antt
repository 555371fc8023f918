use Rattle.std.proofs.Common.{◌≡◌, ◌<◌, ap, length, get_or, arith}
use Rattle.std.proofs.lemmas.Grind.{common_steps}
use Rattle.std.proofs.lemmas.List.Edits.{map_over_more}
use Rattle.hs_roots.specs.Roots.{counting}
use Rattle.hs_roots.proofs.root.count_all.Goals as goal

pub loop-root-preserved : goal.loop-root-preserved
loop-root-preserved c =
    let x = get_or c.loop-root.root-items c.loop-root.root-index c.root-item.result in
    let within : c.loop-root.root-index < length c.deref_mut-root-items.result.now = grind (arith, common_steps) in
    let here : x ≡ get_or c.loop-root.root-items c.loop-root.root-index x = ap (λ z. get_or c.loop-root.root-items c.loop-root.root-index z) c.root-item.is in
    rw c.is_counted-root.ensures (map_over_more (counting c.args.epoch) c.deref_mut-root-items.result.now c.loop-root.root-items c.loop-root.root-index x within c.loop-root.invariant here)
