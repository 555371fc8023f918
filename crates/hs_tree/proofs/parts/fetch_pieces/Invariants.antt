use Rattle.std.proofs.Common.{◌≡◌, None, drop}
use Rattle.hs_tree.specs.Rows.{RowSoFar}
use Rattle.hs_tree.proofs.parts.fetch_pieces.Given as goal

abbrev pub invariant-loop-handle : goal.invariant-loop-handle
invariant-loop-handle g l = record {
  so_far : RowSoFar l.session (g.B.Asker.shows l.fn.asker) (g.B.Asker.shows l.asker) 0 l.handles l.bytes l.fn.out.items (drop l.handle-index l.handles) l.left l.out.items;
  going : (g.B.Asker.shows l.asker).ended ≡ None;
}
