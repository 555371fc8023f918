-- The entries of a journal as deeds are judged.
use Rattle.std.specs.Prelude.{ℕ, Option, Some, None}
use Rattle.hs_model.specs.Deeds.{DeedEntry}
use Rattle.hs_journal.specs.declared.entry.JournalEntry.{JournalEntry}
use Rattle.hs_journal.specs.declared.entry.Who.{Who}
use Rattle.hs_journal.specs.declared.entry.Who.TheVariants as who

-- the line that an entry answers, where it answers one
abbrev pub line_answered : Who → Option ℕ
line_answered (who.Line n) = Some n
line_answered (who.Shard g) = None
line_answered who.Store = None

-- an entry without its moment
abbrev pub as_deed : JournalEntry → DeedEntry
as_deed entry = record { line = line_answered entry.who; deed = entry.deed; reply = entry.reply }
