-- One entry more comes to wait, and one takes effect.
use Rattle.std.specs.Prelude.{◌≡◌, ◌+◌, ◌<◌, ◌≤◌, ◌==◌, ◌∷◌, ◌++◌, [], if◌then◌else◌, ℕ, true, false, List, length, All}
use Rattle.hs_entry.specs.declared.entry.Entry.{Entry}
use Rattle.hs_entry.specs.declared.entry.Entry.TheVariants as kind
use Rattle.hs_entry.specs.Entries.{is_of_base}
use Rattle.hs_fold.specs.Lawful.{Deed}
use Rattle.hs_fold.specs.Runs.Catalogue.{catalogue_of}
use Rattle.hs_fold.specs.Runs.Facts.{Catalogue}
use Rattle.hs_fold.specs.Runs.Fits.{catalogue_at}
use Rattle.hs_fold.specs.Runs.Rounds.{is_accepted}
use Rattle.hs_fold.specs.Shards.Parted.{NamesUpTo}
use Rattle.hs_fold.specs.Shards.Setting.{Numbered, Setting, shard_in}
use Rattle.hs_fold.specs.Shards.Sound.{HasRisingViews, most_records}
use Rattle.hs_journal.specs.declared.entry.JournalEntry.{JournalEntry}
use Rattle.hs_limits.specs.Shape.{IsShape}
use Rattle.hs_standing.specs.Left.{MayBeLeft, TookEffect}
use Rattle.hs_standing.specs.Lists.{Lists, settled_catalogues, waiting}
use Rattle.hs_fold.specs.Shards.Outstanding.{MayPend}
use Rattle.hs_standing.specs.Start.{Start}
use Rattle.hs_waiting.specs.Waits.{EntryWaits}

-- one entry more stands at the end of a shard's list
abbrev pub with_entry : Lists → ℕ → Entry → Lists
with_entry lists shard entry = record {
  whole = λ g. if g == shard then lists.whole g ++ (length (lists.whole g) + 1, entry) ∷ [] else lists.whole g;
  front = lists.front;
}

-- an entry may come to wait at the end of a shard's list
pub record MayBeAdded (set : Setting) (Awaited : ℕ → Type 0) (lists : Lists) (shard : ℕ) (entry : Entry) : Type 0 where
  pub ordinary : is_of_base entry ≡ false
  pub views : HasRisingViews ((with_entry lists shard entry).whole shard)
  pub few : length (catalogue_of (shard_in set shard) ((with_entry lists shard entry).whole shard)).roots ≤ most_records
  pub names : NamesUpTo (lists.front shard) entry
  pub waits : EntryWaits (settled_catalogues set lists) shard entry
  pub awaited : MayPend Awaited entry

-- one entry more of a shard took effect
abbrev pub one_more : Lists → ℕ → Lists
one_more lists shard = record { whole = lists.whole; front = λ g. if g == shard then lists.front g + 1 else lists.front g }

-- lists of all shards: what took effect of them is what the journal tells, and what waits of each may be left
pub record AreStanding (start : Start) (Awaited : ℕ → Type 0) (journal : List JournalEntry) (lists : Lists) : Type 0 where
  pub shape : IsShape start.set.shape
  pub took : TookEffect start journal lists
  pub within : (shard : ℕ) → shard < start.set.shape.shards → lists.front shard ≤ length (lists.whole shard)
  pub left : (shard : ℕ) → shard < start.set.shape.shards → MayBeLeft start.set Awaited lists shard

-- the first entry that waits of a shard
pub record IsFirstWaiting (set : Setting) (lists : Lists) (shard : ℕ) (e : ℕ × Entry) : Type 0 where
  pub of : shard < set.shape.shards
  pub rest : Numbered
  pub first : waiting lists shard ≡ e ∷ rest

-- an entry of a shard as one of a history
abbrev pub deed_of : ℕ → ℕ × Entry → Deed
deed_of shard e = record { shard = shard; number = e.0; entry = e.1 }

-- a Got that waits would be taken where the catalogue is this
abbrev pub IsStillDue : ℕ → Catalogue → Entry → Type 0
IsStillDue shards c (kind.Got sender epoch round total deltas) = is_accepted shards c (record { epoch = epoch; round = round; from = sender }) ≡ true
IsStillDue shards c (kind.View view) = Unit {0}
IsStillDue shards c (kind.Block op least bytes) = Unit {0}
IsStillDue shards c (kind.Mark op least block address) = Unit {0}
IsStillDue shards c (kind.Root op held address key) = Unit {0}
IsStillDue shards c (kind.Drop op key) = Unit {0}
IsStillDue shards c (kind.Enter op epoch) = Unit {0}
IsStillDue shards c (kind.Base view epoch swept round frames) = Unit {0}
IsStillDue shards c (kind.KeptBlock born mark flags count bytes) = Unit {0}
IsStillDue shards c (kind.KeptRoot created dropped counted address key) = Unit {0}
IsStillDue shards c (kind.KeptRound way other epoch round total deltas) = Unit {0}

-- so each that waits of a shard
abbrev pub AreStillDue : Setting → Lists → ℕ → Type 0
AreStillDue set lists shard = All (λ e. IsStillDue set.shape.shards (catalogue_at (settled_catalogues set lists) shard) e.1) (waiting lists shard)
