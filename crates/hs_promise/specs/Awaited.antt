-- Which entries a stop may leave that have not taken effect.
use Rattle.std.specs.Prelude.{IsSome, ℕ}
use Rattle.hs_fold.specs.Good.{IsBegun}
use Rattle.hs_journal.specs.Events.{client_op}
use Rattle.hs_journal.specs.Order.{IsOfLine}
use Rattle.hs_journal.specs.Moments.{below}
use Rattle.hs_promise.specs.Run.{Ran, Script}

-- a client's line was begun below a moment, and has no entry in the journal below it
pub record IsAwaited (S : Script) (r : Ran) (moment line : ℕ) : Type 0 where
  pub asks : IsSome (client_op (S.commands line))
  pub begun : IsBegun r.course line moment
  pub unanswered : (place : ℕ) → IsOfLine (below moment r.journal) place line → ⊥
