use Rattle.std.proofs.Common.{◌≡◌, Some, map, slice_get, take}
use Rattle.hs_copy.specs.declared.order.Mark.TheVariants as mark
use Rattle.hs_copy.proofs.order.places_of.Given as goal

abbrev pub invariant-loop-number : goal.invariant-loop-number
invariant-loop-number l = map (λ n. slice_get l.marks n) (take l.number-index l.numbers) ≡ map (λ p. Some (mark.At p)) l.places.items
