use Rattle.std.proofs.Common.{◌≡◌, ℕ, ◌+◌, ◌++◌, ◌∷◌, [], map, ap, arith, sym, ◌∙◌}
use Rattle.std.proofs.lemmas.List.FromFn.{map-range_with_len_more}
use Rattle.std.specs.List.{range_with_len}
use Rattle.hs_rounds.specs.declared.body.RoundBody.{RoundBody}
use Rattle.hs_rounds.specs.Rounds.{body_for}
use Rattle.hs_rounds.proofs.sending.bodies_for.Goals as goal

pub loop-to-preserved : goal.loop-to-preserved
loop-to-preserved c =
    let told : ℕ → RoundBody = body_for c.args.shape.shards c.args.total c.args.deltas.now in
    let one : record { total = c.args.total; deltas = c.in_ok-deltas.deltas } ≡ told c.loop-to.to = ap (λ deltas. record { total = c.args.total; deltas = deltas }) c.in_ok-deltas.ensures in
    let more : map told (range_with_len 0 (c.loop-to.to + 1)) ≡ map told (range_with_len 0 c.loop-to.to) ++ told c.loop-to.to ∷ [] = map-range_with_len_more told 0 c.loop-to.to c.loop-to.to (omega arith) in
    c.in_ok-push.ensures.ok ∙ (rw (c.loop-to.invariant, one) (sym more))
