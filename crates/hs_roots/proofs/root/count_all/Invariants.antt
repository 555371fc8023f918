use Rattle.std.proofs.Common.{◌≡◌, ◌++◌, map, take, drop}
use Rattle.hs_roots.specs.Roots.{counting}
use Rattle.hs_roots.proofs.root.count_all.Given as goal

abbrev pub invariant-loop-root : goal.invariant-loop-root
invariant-loop-root l = l.root-items ≡ map (counting l.epoch) (take l.root-index l.initial.root-items) ++ drop l.root-index l.initial.root-items
