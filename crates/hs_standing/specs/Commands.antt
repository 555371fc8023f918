-- Operations without an answer as those of their lines' commands.
use Rattle.std.specs.Prelude.{◌≡◌, ℕ, List, Some, None}
use Rattle.hs_answered.specs.Standing.{IsAddressed, store_with}
use Rattle.hs_answered.specs.Telling.{Judging}
use Rattle.hs_awaiting.specs.declared.waiting.Waiting.{Waiting}
use Rattle.hs_core_words.specs.Looking.{operation_of}
use Rattle.hs_core_words.specs.State.{Core}
use Rattle.hs_effects.specs.Logged.{IsNewLine}
use Rattle.hs_fold.specs.Runs.Facts.{Catalogue as Folded}
use Rattle.hs_journal.specs.Events.{addressed, client_op}
use Rattle.hs_model.specs.declared.op.Op.{Op}
use Rattle.hs_tokens.specs.Seats.{Seats}

-- an operation is what the command of its line asks for where these sessions are open: a write has the address of its block, where it has one
pub record IsOfCommand (by : Judging) (seats : Seats) (line : ℕ) (o : Op) : Type 0 where
  pub said : Op
  pub asks : client_op (by.commands line) ≡ Some said
  pub same : (cs : List Folded) → addressed by.name (store_with cs seats) said ≡ o

-- and it has the address of the block that it looks at
pub record IsCommanded (by : Judging) (seats : Seats) (line : ℕ) (o : Op) : Type 0 where
  pub says : IsOfCommand by seats line o
  pub has : IsAddressed seats o

-- so it is with each operation that waits
abbrev pub AreCommanded : Judging → Core → Type 0
AreCommanded by core = (line : ℕ) (w : Waiting) → operation_of line core ≡ Some w → IsCommanded by core.sessions line w.operation.op

-- a client's line comes as its command asks, and is new
pub record IsLineOf (by : Judging) (core : Core) (line : ℕ) (o : Op) : Type 0 where
  pub fresh : IsNewLine by.name core line o
  pub says : IsOfCommand by core.sessions line o

-- a line is no client's
abbrev pub IsNobodys : Judging → ℕ → Type 0
IsNobodys by line = client_op (by.commands line) ≡ None
