-- What of a core an act beside all that is answered leaves as it is.
use Rattle.std.specs.Prelude.{ℕ, List, Option}
use Rattle.hs_awaiting.specs.declared.waiting.Waiting.{Waiting}
use Rattle.hs_core_words.specs.State.{Core}
use Rattle.hs_desk.specs.declared.fault.CoreFault.{CoreFault}
use Rattle.hs_journal.specs.declared.entry.JournalEntry.{JournalEntry}
use Rattle.hs_limits.specs.declared.limits.Limits.{Limits}
use Rattle.hs_shard.specs.Facts.{Catalogue}
use Rattle.hs_tokens.specs.Seats.{Seats}

-- all but members, lists, jobs, joining peers, views that are reached, and messages
pub record Kept : Type 0 where
  pub limits : Limits
  pub catalogues : List Catalogue
  pub sessions : Seats
  pub operations : List (ℕ × Waiting)
  pub journal : List JournalEntry
  pub entries : List JournalEntry
  pub refused : List JournalEntry
  pub ended : Option CoreFault
  pub moment : ℕ
  pub last_line : ℕ
  pub event_line : ℕ

abbrev pub kept_of : Core → Kept
kept_of core = record {
  limits = core.limits;
  catalogues = core.catalogues;
  sessions = core.sessions;
  operations = core.operations;
  journal = core.journal;
  entries = core.entries;
  refused = core.refused;
  ended = core.ended;
  moment = core.moment;
  last_line = core.progress.last_line;
  event_line = core.progress.event_line;
}
