-- A journal that tells a run of the plain store.
use Rattle.std.specs.Prelude.{◌≡◌, ℕ, List, Option}
use Rattle.hs_journal.specs.declared.entry.JournalEntry.{JournalEntry}
use Rattle.hs_journal.specs.Events.{IsAnswered, events_of}
use Rattle.hs_limits.specs.declared.address.Address.{Address}
use Rattle.hs_limits.specs.declared.limits.Limits.{Limits}
use Rattle.hs_model.specs.declared.command.Command.{Command}
use Rattle.hs_model.specs.Run.{Event, IsLegal, run}
use Rattle.hs_model.specs.Store.{Store}

-- by what a journal is judged: the command of each line, the naming of blocks, and the limits
pub record Judging : Type 0 where
  pub commands : ℕ → Option Command
  pub name : List ℕ → Address
  pub limits : Limits

-- the events of which entries tell, from a store on
abbrev pub events_in : Judging → Store → List JournalEntry → List Event
events_in by start entries = events_of by.commands by.name by.limits start entries

-- they are a legal run, each entry has the answer of its event at its place, and the run leaves this store
pub record Tells (by : Judging) (start : Store) (entries : List JournalEntry) (after : Store) : Type 0 where
  pub legal : IsLegal by.limits start (events_in by start entries)
  pub answered : IsAnswered by.commands by.name by.limits start entries
  pub left : run by.limits start (events_in by start entries) ≡ after
