-- What the summary of a load counts, by its journal.
use Rattle.std.specs.List.{list_any}
use Rattle.std.specs.Prelude.{◌≡◌, ◌<◌, ◌+◌, ◌-◌, ◌++◌, ◌&&◌, ℕ, Bool, true, List, count_by, length, slice_index_or, sum_by}
use Rattle.hs_core_words.specs.State.{Core}
use Rattle.hs_journal.specs.declared.entry.JournalEntry.{JournalEntry}
use Rattle.hs_load.specs.Compared.{is_own}
use Rattle.hs_load.specs.Loaded.{Close, Handed}
use Rattle.hs_load.specs.Owners.{is_of}
use Rattle.hs_load.specs.Tallied.{blocks_in, is_deletion, roots_in, runs_at}
use Rattle.hs_load.specs.Team.{sessions_of}
use Rattle.hs_model.specs.declared.deed.Deed.{Deed}
use Rattle.hs_ports.specs.Sink.{bytes_of, followed}
use Rattle.hs_script.specs.Summary.{summary_text}
use Rattle.hs_script.specs.declared.sums.WriterSum.{WriterSum}
use Rattle.hs_workers.specs.Asks.{drops_file, roots_file}

-- how many answers to a writer, among so many, have such a deed
abbrev pub done_by : ℕ → ℕ → (Deed → Bool) → List JournalEntry → ℕ
done_by writers number does journal = count_by (λ entry. is_own (is_of (sessions_of writers) number) entry && does entry.deed) journal

-- what a writer did by a journal: the files that it rooted, and how many of them it did not drop
pub record IsSumOf (writers number : ℕ) (journal : List JournalEntry) (sum : WriterSum) : Type 0 where
  pub files : sum.files ≡ done_by writers number roots_file journal
  pub kept : sum.kept ≡ done_by writers number roots_file journal - done_by writers number drops_file journal

-- the summary was put of what writers did by the journal, up to the joins, and of what the last core counts
pub record SumsUp (writers : ℕ) (h : Handed) (c : Close) : Type 0 where
  pub sums : List WriterSum
  pub last : Core
  pub joined : List JournalEntry
  pub more : List JournalEntry
  pub line : ℕ
  pub put : bytes_of c.new ≡ followed (bytes_of c.old) (summary_text sums (roots_in last) (blocks_in last))
  pub count : length sums ≡ writers
  pub each : (number : ℕ) (given : WriterSum) → number < writers → IsSumOf writers number joined (slice_index_or sums number given)
  pub roots : roots_in last ≡ sum_by (λ sum. sum.kept) sums
  pub journal : h.journal ≡ last.journal
  pub front : h.journal ≡ joined ++ more
  pub deletions : count_by is_deletion h.journal ≡ 6
  pub first : list_any (λ entry. runs_at (line + 2) entry) h.journal ≡ true
  pub second : list_any (λ entry. runs_at (line + 4) entry) h.journal ≡ true
