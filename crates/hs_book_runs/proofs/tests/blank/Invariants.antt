use Rattle.std.proofs.Common.{◌≡◌, length}
use Rattle.hs_book_runs.proofs.tests.blank.Given as goal

abbrev pub invariant-loop-peer : goal.invariant-loop-peer
invariant-loop-peer l = length l.disks.items ≡ l._peer
