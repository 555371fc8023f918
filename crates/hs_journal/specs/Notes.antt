-- Notes that peers are down.
use Rattle.std.specs.List.{list_any}
use Rattle.std.specs.Option.{option_map_or}
use Rattle.std.specs.Prelude.{Bool, List, None, Option, Some, count_by, false, ℕ, ◌&&◌, ◌==◌}
use Rattle.hs_journal.specs.declared.entry.JournalEntry.{JournalEntry}
use Rattle.hs_model.specs.declared.reply.Reply.{Reply}
use Rattle.hs_model.specs.declared.reply.Reply.TheVariants as reply

-- the peer that a reply tells to be down, with the line of the last event that had one: 0 in opening
abbrev pub down_in : Reply → Option (ℕ × ℕ)
down_in (reply.Down peer line) = Some (peer, line)
down_in other = None

-- whether an entry tells that a peer is down, and whether it tells so before any line had an event
abbrev pub is_note : ℕ → JournalEntry → Bool
is_note peer entry = option_map_or (λ d. d.0 == peer) (down_in entry.reply) false

abbrev pub is_first_note : ℕ → JournalEntry → Bool
is_first_note peer entry = option_map_or (λ d. d.0 == peer && d.1 == 0) (down_in entry.reply) false

-- how many of some entries tell that a peer is down
abbrev pub note_count : ℕ → List JournalEntry → ℕ
note_count peer entries = count_by (is_note peer) entries

-- whether one tells so before any line had an event
abbrev pub is_first_noted : ℕ → List JournalEntry → Bool
is_first_noted peer entries = list_any (is_first_note peer) entries
