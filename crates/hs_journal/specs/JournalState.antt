-- What a journal tells.
use Rattle.std.specs.Prelude.{ℕ, List}
use Rattle.hs_journal.specs.declared.entry.JournalEntry.{JournalEntry}

-- the entries in their order, and how many there may be
pub record JournalState : Type 0 where
  pub entries : List JournalEntry
  pub limit : ℕ
