use Rattle.std.proofs.Common.{◌≡◌, Some, map, slice_get, take}
use Rattle.hs_copy.specs.declared.write.Node.{Node}
use Rattle.hs_copy.proofs.write.nodes_at.Given as goal

abbrev pub invariant-loop-place : goal.invariant-loop-place
invariant-loop-place l = map (λ p. slice_get l.nodes p) (take l.place-index l.places) ≡ map (λ (n : Node). Some n) l.below.items
