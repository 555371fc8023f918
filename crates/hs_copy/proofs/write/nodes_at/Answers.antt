use Rattle.std.proofs.Common.{Some, slice_get}
use Rattle.hs_copy.proofs.StepLemmas.{map_take_more}
use Rattle.hs_copy.specs.declared.write.Node.{Node}
use Rattle.hs_copy.proofs.write.nodes_at.Goals as goal

pub loop-place-preserved : goal.loop-place-preserved
loop-place-preserved c = map_take_more (λ p. slice_get c.args.nodes.now p) (λ (n : Node). Some n) c.args.places.now c.loop-place.below.items c.push_to.new.items.items c.loop-place.place-index _ c.in_ok-node.node c.loop-place-test.true c.loop-place.invariant c.in_ok-node.ensures.ok c.in_ok-push_to.ensures.ok
