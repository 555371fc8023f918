-- What an event adds to the journal.
use Rattle.std.specs.Prelude.{ℕ, ◌+◌, List, [], length, is_none, nat_lt, if◌then◌else◌}
use Rattle.hs_core_words.specs.declared.event.Event.{Event}
use Rattle.hs_core_words.specs.State.{Core}
use Rattle.hs_core_words.specs.Step.{begin_event, do_event, line_of}
use Rattle.hs_journal.specs.declared.entry.JournalEntry.{JournalEntry}

-- the core before the end of the event
abbrev pub before_end : Event → ℕ → Core → Core
before_end e at core = do_event e (begin_event (line_of e) at core)

-- all of its entries, or none
abbrev pub kept_entries : Core → List JournalEntry
kept_entries core = if nat_lt core.limits.ops (length core.journal + length core.entries) then [] else core.entries

abbrev pub added : Event → ℕ → Core → List JournalEntry
added e at core = if is_none core.ended then kept_entries (before_end e at core) else []
