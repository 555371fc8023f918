use Rattle.std.proofs.Common.{refl, subst, sym}
use Rattle.hs_copy.proofs.PlaceLemmas.{ordered, started}
use Rattle.hs_copy.specs.Placing.{ArePlacedSoFar}
use Rattle.hs_copy.proofs.order.order_blocks.Goals as goal

pub steps-init : goal.steps-init
steps-init c = subst (λ z. ArePlacedSoFar c.args.listed.now c.enter.new.marks.items z) (sym c.new-placed.ensures.items) (started c.args.listed.now c.in_ok-marks.marks.items c.enter.new.marks.items _ c.in_ok-marks.ensures c.in_ok-enter.ensures.ok)

pub returns-clause-ok : goal.returns-clause-ok
returns-clause-ok c = ordered c.args.listed.now c.steps.marks.items _ c.steps.placed.items _ c.steps.invariant c.deref.ensures.value refl (c.if-not-is_whole.ensures refl)
