use Rattle.std.proofs.Common.{Some, slice_get}
use Rattle.hs_copy.proofs.StepLemmas.{map_take_more}
use Rattle.hs_copy.specs.declared.order.Mark.TheVariants as mark
use Rattle.hs_copy.proofs.order.places_of.Goals as goal

pub loop-number-preserved : goal.loop-number-preserved
loop-number-preserved c = map_take_more (λ n. slice_get c.args.marks.now n) (λ p. Some (mark.At p)) c.args.numbers.now c.loop-number.places.items c.push_to.new.items.items c.loop-number.number-index _ c.in_ok-place.place c.loop-number-test.true c.loop-number.invariant c.in_ok-place.ensures.ok c.in_ok-push_to.ensures.ok
