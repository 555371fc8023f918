use Rattle.std.proofs.Common.{◌≡◌, ℕ, ◌+◌, ◌-◌, ◌*◌, arith, ◌∙◌, ap}
use Rattle.hs_entry.specs.Reading.{with_deltas, deltas_at}
use Rattle.hs_entry.proofs.DeltaLemmas.{deltas_more, deltas_done}
use Rattle.hs_entry.proofs.parts.deltas_of.Goals as goal

pub deltas-preserved : goal.deltas-preserved
deltas-preserved c =
    let at : ℕ = 30 + 36 * c.deltas.index in
    let place : at + 36 ≡ 30 + 36 * (c.deltas.index + 1) = omega arith in
    let left : (c.args.count - c.deltas.index) - 1 ≡ c.args.count - (c.deltas.index + 1) = omega arith in
    let read = deltas_more c.args.whole at (c.args.count - c.deltas.index) c.deltas.deltas c.deltas.last c.deltas.rest.now _ c.in_ok-delta.delta c.in_ok-delta.more.now (omega (arith, c.deltas-test.true)) c.deltas.invariant c.in_ok-delta.ensures in
    rw (c.in_ok-push.ensures.ok, ← place, ← left) read

pub returns : goal.returns
returns c =
    let none : c.args.count - c.deltas.index ≡ 0 = omega (arith, c.deltas-test.false) in
    deltas_done c.args.whole (30 + 36 * c.deltas.index) c.deltas.deltas c.deltas.last c.deltas.rest.now _ (c.deltas.invariant ∙ ap (λ (n : ℕ). with_deltas c.deltas.deltas (deltas_at c.args.whole (30 + 36 * c.deltas.index) n c.deltas.last c.deltas.rest.now)) none)
