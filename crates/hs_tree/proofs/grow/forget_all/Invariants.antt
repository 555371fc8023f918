use Rattle.std.proofs.Common.{◌≡◌, None, take}
use Rattle.hs_tree.specs.Steps.{Forgets}
use Rattle.hs_tree.proofs.grow.forget_all.Given as goal

abbrev pub invariant-loop-node : goal.invariant-loop-node
invariant-loop-node g l = record {
  forgets : Forgets l.session (g.B.Asker.shows l.fn.asker) (g.B.Asker.shows l.asker) (take l.node-index l.nodes);
  going : (g.B.Asker.shows l.asker).ended ≡ None;
}
