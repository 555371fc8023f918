use Rattle.std.proofs.Common.{◌≡◌, ◌-◌, ◌≤◌, length}
use Rattle.hs_ports.specs.Source.{before}
use Rattle.hs_tree.proofs.taking.take_piece.Given as goal

abbrev pub invariant-loop-source : goal.invariant-loop-source
invariant-loop-source g l = record {
  bound : length l.piece.items ≤ l.most;
  stream : before l.piece.items (g.S.Source.left l.source) ≡ g.S.Source.left l.fn.source;
  later : g.S.Source.faults l.fn.source ≡ g.S.Source.faults l.source;
}

abbrev pub decreases-loop-source : goal.decreases-loop-source
decreases-loop-source g l = l.most - length l.piece.items
