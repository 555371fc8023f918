use Rattle.std.proofs.Common.{◌≡◌, Some, refl, slice_get, subst, sym}
use Rattle.hs_copy.proofs.PlaceLemmas.{stays_marked}
use Rattle.hs_copy.specs.Placing.{StaysMarked}
use Rattle.hs_copy.specs.declared.order.Mark.TheVariants as mark
use Rattle.hs_copy.proofs.order.enter.Goals as goal

pub returns-clause-ok : goal.returns-clause-ok
returns-clause-ok c = subst (λ z. StaysMarked c.args.marks.now.items z) (sym c.set_mark.ensures) (stays_marked c.args.marks.now.items c.args.number (subst (λ z. slice_get z c.args.number ≡ Some mark.New) c.deref.ensures.value (c.if-not-is_new.ensures refl)))
