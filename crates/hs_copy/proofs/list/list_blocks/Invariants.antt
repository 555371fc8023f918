use Rattle.std.proofs.Common.{◌-◌, ◌≤◌, length}
use Rattle.hs_copy.specs.Finding.{Reads}
use Rattle.hs_copy.specs.Whole.{ListsSoFar}
use Rattle.hs_copy.proofs.list.list_blocks.Given as goal

abbrev pub invariant-blocks-2 : goal.invariant-blocks-2
invariant-blocks-2 g l = record {
  reads : Reads (g.B.Asker.shows l.fn.asker) (g.B.Asker.shows l.asker) (length l.listed.items);
  found : length l.found.items ≤ 4000;
  few : length l.listed.items ≤ 4000;
  listing : ListsSoFar (g.B.Asker.shows l.fn.asker) (g.B.Asker.shows l.asker) l.handle l.numbers.entries l.found.items l.listed.items;
}

abbrev pub decreases-blocks-2 : goal.decreases-blocks-2
decreases-blocks-2 g l = 4000 - length l.listed.items
