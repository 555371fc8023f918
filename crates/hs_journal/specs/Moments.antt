-- What was answered by a moment.
use Rattle.std.specs.Prelude.{List, filter, nat_lt, ℕ}
use Rattle.hs_journal.specs.declared.entry.JournalEntry.{JournalEntry}

-- the entries of a journal below a moment
abbrev pub below : ℕ → List JournalEntry → List JournalEntry
below moment journal = filter (λ entry. nat_lt entry.moment moment) journal
