use Rattle.std.proofs.Common.{◌≤◌, length, take}
use Rattle.hs_copy.specs.Finding.{Reads}
use Rattle.hs_copy.specs.Whole.{NumbersAll}
use Rattle.hs_copy.proofs.list.number_all.Given as goal

abbrev pub invariant-loop-handle : goal.invariant-loop-handle
invariant-loop-handle g l = record {
  reads : Reads (g.B.Asker.shows l.fn.asker) (g.B.Asker.shows l.asker) 0;
  numbers : NumbersAll (g.B.Asker.shows l.fn.asker) (g.B.Asker.shows l.asker) (take l.handle-index l.handles) l.fn.numbers.entries l.numbers.entries l.fn.found.items l.found.items l.pointers.items;
  few : length l.fn.found.items ≤ 4000 → length l.found.items ≤ 4000;
}
