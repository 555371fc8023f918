-- A core along the events of a script, and the answers that it gives.
use Rattle.std.specs.Prelude.{◌≡◌, List, [], ◌∷◌, None}
use Rattle.hs_standing.specs.Walks.{HasRecordRoom}
use Rattle.hs_answered.specs.Telling.{Judging, events_in}
use Rattle.hs_core_words.specs.State.{Core}
use Rattle.hs_core_words.specs.Step.{step}
use Rattle.hs_events.specs.Due.{Events}
use Rattle.hs_fold.specs.Runs.Facts.{Catalogue as Folded}
use Rattle.hs_journal.specs.declared.entry.JournalEntry.{JournalEntry}
use Rattle.hs_journal.specs.Events.{IsAnswered}
use Rattle.hs_journal.specs.Order.{IsOrdered}
use Rattle.hs_standing.specs.Coming.{ReportsBlocks}
use Rattle.hs_standing.specs.Legal.{IsStanding}
use Rattle.hs_limits.specs.declared.limits.Limits.{Limits}
use Rattle.hs_standing.specs.Script.{Script}
use Rattle.hs_model.specs.Run.{IsLegal}
use Rattle.hs_model.specs.Store.{Store}
use Rattle.hs_told.specs.InTurn.{IsInTurn}

-- by what the journal of a script is judged
abbrev pub judging_by : Script → Limits → Judging
judging_by s limits = record { commands = s.commands; name = s.name; limits = limits }

-- ---- what is asked along events, as long as the core goes on

-- the root records and the Roots that wait are few before each
abbrev pub KeepsRecordRoom : Core → Events → Type 0
KeepsRecordRoom core [] = Unit {0}
KeepsRecordRoom core (e ∷ es) = (core.ended ≡ None → HasRecordRoom core) × KeepsRecordRoom (step e.0 e.1 core) es

-- each report tells bytes of the block that the plain store has
abbrev pub TellTheirBlocks : Judging → Store → Core → Events → Type 0
TellTheirBlocks by start core [] = Unit {0}
TellTheirBlocks by start core (e ∷ es) = (core.ended ≡ None → ReportsBlocks by start e.0 core) × TellTheirBlocks by start (step e.0 e.1 core) es

pub record IsAskedAlong (by : Judging) (start : Store) (core : Core) (es : Events) : Type 0 where
  pub room : KeepsRecordRoom core es
  pub blocks : TellTheirBlocks by start core es

-- ---- between two events

-- its answers are in order, and it stands for some folds
pub record IsReady (by : Judging) (start : Store) (core : Core) : Type 0 where
  pub turn : IsInTurn by.commands core
  pub folds : List Folded
  pub stands : IsStanding by start core folds

-- entries are a legal run of the plain store from a store on, their answers are that store's, and they stand in the order of a journal
pub record AreAnswers (by : Judging) (start : Store) (entries : List JournalEntry) : Type 0 where
  pub legal : IsLegal by.limits start (events_in by start entries)
  pub replied : IsAnswered by.commands by.name by.limits start entries
  pub ordered : IsOrdered by.commands entries
