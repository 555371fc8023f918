-- Of which lists a stop may leave any front that has all that took effect.
use Rattle.std.specs.Prelude.{All, AllPairs, List, [], length, ℕ, ◌+◌, ◌∷◌, ◌≡◌, ◌≢◌, ◌≤◌}
use Rattle.hs_entry.specs.Entries.{IsPrefix}
use Rattle.hs_fold.specs.Prefix.{IsNumbered}
use Rattle.hs_fold.specs.Runs.Catalogue.{catalogue_of}
use Rattle.hs_fold.specs.Runs.History.{AreLawful, no_entries}
use Rattle.hs_fold.specs.Runs.Opened.{store_of}
use Rattle.hs_fold.specs.Shards.Parted.{NamesUpTo}
use Rattle.hs_fold.specs.Shards.Pending.{changing_lines}
use Rattle.hs_fold.specs.Shards.Setting.{Numbered, Setting, shard_in}
use Rattle.hs_fold.specs.Shards.Sound.{HasRisingViews, most_records}
use Rattle.hs_joint.specs.Along.{KeepFewRecords}
use Rattle.hs_journal.specs.declared.entry.JournalEntry.{JournalEntry}
use Rattle.hs_model.specs.Run.{IsLegal}
use Rattle.hs_model.specs.Store.{reborn}
use Rattle.hs_standing.specs.Lists.{Lists, settled, settled_catalogues, waiting, whole_from}
use Rattle.hs_fold.specs.Shards.Outstanding.{MayPend, pending}
use Rattle.hs_standing.specs.Start.{Start, events_in, store_after}
use Rattle.hs_waiting.specs.Waits.{EntryWaits}

-- what took effect is what the journal tells: its events are a legal run, the lists stand at the store behind it, and a lawful history gives them, along which no shard has more root records than it takes
pub record TookEffect (start : Start) (journal : List JournalEntry) (lists : Lists) : Type 0 where
  pub legal : IsLegal start.set.limits start.entry (events_in start journal)
  pub stood : store_of (settled_catalogues start.set lists) ≡ reborn (store_after start journal)
  pub lawful : AreLawful start.set (settled start.set lists) (settled_catalogues start.set lists)
  pub records : KeepFewRecords start.set (no_entries start.set) lawful.history

-- of all that waits no line has two entries by which something happens
abbrev pub EachLineOnce : Start → Lists → Type 0
EachLineOnce start lists =
    AllPairs (λ one other. one ≢ other) (changing_lines (pending start.set lists.front 0 (whole_from lists 0 start.set.shape.shards)))

-- no front of a shard's list that has all that took effect gives it more root records than it takes
abbrev pub HasFewRecords : Setting → Lists → ℕ → Type 0
HasFewRecords set lists shard =
    (list : Numbered) → IsPrefix list (lists.whole shard) → lists.front shard ≤ length list → length (catalogue_of (shard_in set shard) list).roots ≤ most_records

-- each entry that waits of a shard has what it rests on; a Mark names a block that took effect
abbrev pub AllWait : Setting → Lists → ℕ → Type 0
AllWait set lists shard = All (λ e. NamesUpTo (lists.front shard) e.1 × EntryWaits (settled_catalogues set lists) shard e.1) (waiting lists shard)

-- any front of a shard's list that has all that took effect may be left by a stop: what waits has what it rests on, and is of lines that are awaited
pub record MayBeLeft (set : Setting) (Awaited : ℕ → Type 0) (lists : Lists) (shard : ℕ) : Type 0 where
  pub numbered : IsNumbered (lists.whole shard)
  pub views : HasRisingViews (lists.whole shard)
  pub few : HasFewRecords set lists shard
  pub waits : AllWait set lists shard
  pub awaited : All (λ e. MayPend Awaited e.1) (waiting lists shard)

-- of each shard from one on a front of its list that has all that took effect
abbrev pub AreFronts : Lists → ℕ → List Numbered → Type 0
AreFronts lists shard [] = Unit {0}
AreFronts lists shard (list ∷ more) = (IsPrefix list (lists.whole shard) × (lists.front shard ≤ length list)) × AreFronts lists (shard + 1) more
