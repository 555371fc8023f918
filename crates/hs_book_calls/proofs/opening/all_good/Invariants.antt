use Rattle.std.proofs.Common.{◌≡◌, length}
use Rattle.hs_book_calls.proofs.opening.all_good.Given as goal

abbrev pub invariant-loop-peer : goal.invariant-loop-peer
invariant-loop-peer l = length l.good.items ≡ l._peer
