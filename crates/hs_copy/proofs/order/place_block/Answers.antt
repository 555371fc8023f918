use Rattle.std.proofs.Common.{◌≡◌, Some, length, map, refl, rules, slice_get, subst}
use Rattle.hs_copy.proofs.StepLemmas.{places_entered}
use Rattle.hs_copy.specs.declared.order.Mark.TheVariants as mark
use Rattle.hs_copy.proofs.order.place_block.Goals as goal

pub returns-clause-ok : goal.returns-clause-ok
returns-clause-ok c =
    let at : c.in-Ok.place ≡ length c.args.placed.now.items = search rules in
    places_entered c.args.block.now c.args.number c.in-Ok.place c.args.marks.now.items c.set_mark.new.marks.items c.args.placed.now.items c.push_to.new.items.items c.as_slice.result.now c.in_ok-bytes.bytes c.in_ok-below.below
    (subst (λ z. slice_get z c.args.number ≡ Some mark.Entered) c.deref.ensures.value (c.if-not-is_entered.ensures refl)) at c.as_slice.ensures c.in_ok-bytes.ensures
    (subst (λ z. map (λ n. slice_get z n) c.as_slice.result.now ≡ map (λ p. Some (mark.At p)) c.in_ok-below.below) c.deref-2.ensures.value c.in_ok-below.ensures.ok) c.set_mark.ensures c.in_ok-push_to.ensures.ok
