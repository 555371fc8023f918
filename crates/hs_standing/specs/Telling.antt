-- What was told up to now, as a run of the plain store.
use Rattle.std.specs.Prelude.{◌++◌, List}
use Rattle.hs_answered.specs.Standing.{store_with}
use Rattle.hs_answered.specs.Telling.{Judging, Tells, events_in}
use Rattle.hs_core_words.specs.State.{Core}
use Rattle.hs_fold.specs.Runs.Facts.{Catalogue as Folded}
use Rattle.hs_journal.specs.declared.entry.JournalEntry.{JournalEntry}
use Rattle.hs_model.specs.Run.{run}
use Rattle.hs_model.specs.Store.{Store}
use Rattle.hs_told.specs.InTurn.{told_of}

-- what was told up to now: the journal, what found it full, and what the event has told so far
abbrev pub told_so_far : Core → List JournalEntry
told_so_far core = told_of core ++ core.entries

-- the plain store after the events of that, from a store on
abbrev pub store_so_far : Judging → Store → Core → Store
store_so_far by start core = run by.limits start (events_in by start (told_so_far core))

-- what was told up to now is a legal run from a store on, with its answers, to the store of these folds and the open sessions
abbrev pub IsTelling : Judging → Store → Core → List Folded → Type 0
IsTelling by start core cs = Tells by start (told_so_far core) (store_with cs core.sessions)
