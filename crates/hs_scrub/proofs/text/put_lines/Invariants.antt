-- So far, the lines of the first peers are written.
use Rattle.std.proofs.Common.{◌≡◌, ◌++◌, ◌≤◌, length, take}
use Rattle.hs_scrub.specs.Text.{lines_of}
use Rattle.hs_scrub.proofs.text.put_lines.Given as goal

abbrev pub invariant-loop-peer : goal.invariant-loop-peer
invariant-loop-peer l = record {
  within : l.peer ≤ length l.marks;
  lines : l.out.items ≡ l.initial.out.items ++ lines_of l.copies l.lengths (take l.peer l.marks);
}
