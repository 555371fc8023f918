-- What a core has told of deletions, between two events.
use Rattle.std.specs.List.{AllByRecursion}
use Rattle.std.specs.Prelude.{◌≡◌, ℕ, Option, None}
use Rattle.hs_answered.specs.Telling.{Judging}
use Rattle.hs_core_words.specs.State.{Core}
use Rattle.hs_journal.specs.declared.entry.JournalEntry.{JournalEntry}
use Rattle.hs_journal.specs.declared.entry.Who.TheVariants as who
use Rattle.hs_journal.specs.Events.{client_op}
use Rattle.hs_model.specs.declared.command.Command.{Command}
use Rattle.hs_model.specs.Store.{Store}
use Rattle.hs_swept.specs.Swept.{AreSwept, IsOther}
use Rattle.hs_told.specs.InTurn.{told_of}

-- an entry of a line that is no client's tells neither of a sweep nor that a run is done
abbrev pub IsMereRefusal : (ℕ → Option Command) → JournalEntry → Type 0
IsMereRefusal commands entry = (line : ℕ) → entry.who ≡ who.Line line → client_op (commands line) ≡ None → IsOther entry

-- its journal keeps the rule of sweeps and of `done`, from a store on, and so it does with what found it full; no line that is no client's tells of either
pub record TellsDeletion (by : Judging) (start : Store) (core : Core) : Type 0 where
  pub journal : AreSwept by start core.journal
  pub told : AreSwept by start (told_of core)
  pub refusals : AllByRecursion (IsMereRefusal by.commands) (told_of core)
