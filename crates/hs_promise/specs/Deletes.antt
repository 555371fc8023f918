-- Clause 4, deletion.
use Rattle.std.specs.Prelude.{ℕ, ◌+◌, ◌≡◌}
use Rattle.hs_journal.specs.Order.{IsAt}
use Rattle.hs_journal.specs.declared.entry.JournalEntry.{JournalEntry}
use Rattle.hs_model.specs.Store.{Store}
use Rattle.hs_model.specs.declared.deed.Deed.TheVariants as deed
use Rattle.hs_model.specs.declared.reply.Reply.TheVariants as reply
use Rattle.hs_promise.specs.Answers.{store_before}
use Rattle.hs_laws.specs.Kept.{AllSwept, SweepIsExact}
use Rattle.hs_promise.specs.Run.{Ran, Script}

-- the entry at a place is a sweep, behind which every shard has swept this epoch, and before which one had not
pub record EndsRun (S : Script) (entry : Store) (r : Ran) (place epoch : ℕ) : Type 0 where
  pub shard : ℕ
  pub sweeping : JournalEntry
  pub at : IsAt r.journal place sweeping
  pub swept : sweeping.deed ≡ deed.Swept shard
  pub before : AllSwept (store_before S entry r.journal place) epoch → ⊥
  pub after : AllSwept (store_before S entry r.journal (place + 1)) epoch

-- the entry at a place tells that the run of an epoch is done
pub record IsDoneAt (r : Ran) (place epoch : ℕ) : Type 0 where
  pub entry : JournalEntry
  pub at : IsAt r.journal place entry
  pub tells : entry.reply ≡ reply.Done epoch

-- each sweep is exact, and `done` stands directly after the sweep that ends its run, and nowhere else
pub record Deletes (S : Script) (entry : Store) (r : Ran) : Type 0 where
  pub sweeps : (place shard : ℕ) (e : JournalEntry) → IsAt r.journal place e → e.deed ≡ deed.Swept shard → SweepIsExact (store_before S entry r.journal place) shard e.reply
  pub done : (place epoch : ℕ) → EndsRun S entry r place epoch → IsDoneAt r (place + 1) epoch
  pub only_done : (place epoch : ℕ) → IsDoneAt r place epoch → (before : ℕ) × (place ≡ before + 1) × EndsRun S entry r before epoch
