use Rattle.std.proofs.Common.{◌≡◌, map, take}
use Rattle.hs_workers.proofs.blocks.top_op.Given as goal

abbrev pub invariant-loop-leaf : goal.invariant-loop-leaf
invariant-loop-leaf g l = record {
  handles : l.handles ≡ map (λ leaf. leaf.0) (take l.leaf-index l.leaves);
  pointers : l.pointers ≡ map (λ leaf. leaf.1) (take l.leaf-index l.leaves);
}
