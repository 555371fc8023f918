use Rattle.std.proofs.Common.{take}
use Rattle.hs_copy.specs.Rounds.{Forgets}
use Rattle.hs_copy.proofs.write.forget_all.Given as goal

abbrev pub invariant-loop-node : goal.invariant-loop-node
invariant-loop-node g l = Forgets (g.A.Addresser.name l._naming) (g.B.Asker.shows l.fn.asker) (g.B.Asker.shows l.asker) (take l.node-index l.nodes)
