use Rattle.hs_copy.specs.Placing.{ArePlacedSoFar}
use Rattle.hs_copy.proofs.order.order_blocks.Given as goal

abbrev pub invariant-steps : goal.invariant-steps
invariant-steps l = ArePlacedSoFar l.listed l.marks.items l.placed.items
