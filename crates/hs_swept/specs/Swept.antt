-- What a journal tells of a deletion: its sweeps, and where a run is done.
use Rattle.std.specs.Prelude.{◌≡◌, ℕ, ◌+◌, List, ◌∷◌, slice_index, take}
use Rattle.hs_answered.specs.Telling.{Judging, events_in}
use Rattle.hs_effects.specs.Telling.{done_entries, shard_entry}
use Rattle.hs_journal.specs.declared.entry.JournalEntry.{JournalEntry}
use Rattle.hs_journal.specs.declared.entry.Who.TheVariants as who
use Rattle.hs_journal.specs.Order.{IsAt}
use Rattle.hs_laws.specs.Kept.{AllSwept, SweepIsExact}
use Rattle.hs_model.specs.declared.deed.Deed.TheVariants as deed
use Rattle.hs_model.specs.declared.reply.Reply.TheVariants as reply
use Rattle.hs_model.specs.Inner.{sweep}
use Rattle.hs_model.specs.Run.{run, step, sweeps}
use Rattle.hs_model.specs.Store.{Store}

-- the plain store at a place of entries: behind the entries before it
abbrev pub store_before : Judging → Store → List JournalEntry → ℕ → Store
store_before by start entries place = run by.limits start (events_in by start (take place entries))

-- only a shard tells of a sweep
abbrev pub ShardsSweep : List JournalEntry → Type 0
ShardsSweep entries = (place shard : ℕ) (e : JournalEntry) → IsAt entries place e → e.deed ≡ deed.Swept shard → (g : ℕ) × (e.who ≡ who.Shard g)

-- each sweep removes exactly what is unreachable at its place, and tells the number
abbrev pub SweepsExactly : Judging → Store → List JournalEntry → Type 0
SweepsExactly by start entries =
    (place shard : ℕ) (e : JournalEntry) → IsAt entries place e → e.deed ≡ deed.Swept shard → SweepIsExact (store_before by start entries place) shard e.reply

-- the entry at a place is a sweep, behind which every shard has swept this epoch, and before which one had not
pub record EndsRun (by : Judging) (start : Store) (entries : List JournalEntry) (place epoch : ℕ) : Type 0 where
  pub shard : ℕ
  pub sweeping : JournalEntry
  pub at : IsAt entries place sweeping
  pub swept : sweeping.deed ≡ deed.Swept shard
  pub before : AllSwept (store_before by start entries place) epoch → ⊥
  pub after : AllSwept (store_before by start entries (place + 1)) epoch

-- the entry at a place tells that the run of an epoch is done
pub record IsDoneAt (entries : List JournalEntry) (place epoch : ℕ) : Type 0 where
  pub entry : JournalEntry
  pub at : IsAt entries place entry
  pub tells : entry.reply ≡ reply.Done epoch

-- each sweep is exact, and `done` stands directly behind the sweep that ends its run, and nowhere else
pub record AreSwept (by : Judging) (start : Store) (entries : List JournalEntry) : Type 0 where
  pub sweeps : SweepsExactly by start entries
  pub done : (place epoch : ℕ) → EndsRun by start entries place epoch → IsDoneAt entries (place + 1) epoch
  pub only_done : (place epoch : ℕ) → IsDoneAt entries place epoch → (before : ℕ) × (place ≡ before + 1) × EndsRun by start entries before epoch

-- ---- of what a journal is made

-- an entry that tells neither of a sweep nor that a run is done
pub record IsOther (e : JournalEntry) : Type 0 where
  pub no_sweep : (shard : ℕ) → e.deed ≡ deed.Swept shard → ⊥
  pub no_done : (epoch : ℕ) → e.reply ≡ reply.Done epoch → ⊥

-- what a shard that sweeps tells, with the answer of the plain store, and directly behind it that the run is done where every shard has swept the epoch
abbrev pub sweep_entries : Judging → Store → ℕ → ℕ → List JournalEntry
sweep_entries by s shard moment = shard_entry shard moment (step by.limits s (sweeps shard)) ∷ done_entries moment (slice_index s.epochs shard) (sweep s shard)
