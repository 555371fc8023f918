-- So far the numbers of each peer are the book's.
use Rattle.std.proofs.Common.{◌≡◌, ◌<◌, ℕ, [], get_or}
use Rattle.hs_promise.specs.declared.load.Stored.{Stored}
use Rattle.hs_load.proofs.working.first_apart_of.Given as goal

abbrev pub invariant-loop-peer : goal.invariant-loop-peer
invariant-loop-peer g l = (peer : ℕ) (given : Stored) → peer < l.peer → (get_or l.stored peer given).numbers ≡ get_or l.book.reported peer []
