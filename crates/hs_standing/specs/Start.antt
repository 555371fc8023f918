-- How a run begins, and what it does from there on.
use Rattle.std.specs.Prelude.{IsSome, List, Option, ℕ}
use Rattle.hs_fold.specs.Good.{IsBegun}
use Rattle.hs_fold.specs.Shards.Images.{Stop}
use Rattle.hs_fold.specs.Shards.Setting.{Setting}
use Rattle.hs_journal.specs.Events.{client_op, events_of}
use Rattle.hs_journal.specs.Order.{IsOfLine}
use Rattle.hs_journal.specs.declared.entry.JournalEntry.{JournalEntry}
use Rattle.hs_model.specs.Run.{Event, run}
use Rattle.hs_model.specs.Store.{Store}
use Rattle.hs_model.specs.declared.command.Command.{Command}

-- how a run begins: what the store is set up with, the command of each line, and the store at entry
pub record Start : Type 0 where
  pub set : Setting
  pub commands : ℕ → Option Command
  pub entry : Store

-- the events of a journal from there on, and the store behind them
abbrev pub events_in : Start → List JournalEntry → List Event
events_in start journal = events_of start.commands start.set.name start.set.limits start.entry journal

abbrev pub store_after : Start → List JournalEntry → Store
store_after start journal = run start.set.limits start.entry (events_in start journal)

-- a client's line was begun below the moment of a stop, and has no entry in this journal
pub record IsAwaited (start : Start) (stop : Stop) (journal : List JournalEntry) (line : ℕ) : Type 0 where
  pub asks : IsSome (client_op (start.commands line))
  pub begun : IsBegun stop.course line stop.moment
  pub unanswered : (place : ℕ) → IsOfLine journal place line → ⊥
