use Rattle.std.proofs.Common.{◌≡◌, ◌≤◌, length, take}
use Rattle.hs_copy.specs.Due.{DeletesSo, count_of}
use Rattle.hs_copy.specs.Rounds.{WritesAll}
use Rattle.hs_copy.proofs.write.write_blocks.Given as goal

abbrev pub invariant-loop-place : goal.invariant-loop-place
invariant-loop-place g l = record {
  written : WritesAll (g.A.Addresser.name l.naming) (g.B.Asker.shows l.fn.asker) (g.B.Asker.shows l.asker) (take l.place-index l.placed) l.nodes.items l.fn.deleting.asked l.deleting.asked;
  due : DeletesSo (count_of l.fn.deleting) (count_of l.deleting) (g.B.Asker.shows l.fn.asker) (g.B.Asker.shows l.asker);
  few : l.deleting.asked ≤ 4;
  counted : length l.nodes.items ≡ l.place-index;
}
