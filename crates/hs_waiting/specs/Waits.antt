-- Entries that wait behind what took effect.
use Rattle.std.specs.Prelude.{◌≡◌, ◌⊎◌, ℕ, ◌<◌, ◌≤◌, true, List, [], ◌∷◌, length, IsTrue}
use Rattle.hs_model.specs.Inner.{may_enter as store_may_enter}
use Rattle.hs_entry.specs.declared.entry.Entry.{Entry}
use Rattle.hs_entry.specs.declared.entry.Entry.TheVariants as kind
use Rattle.hs_fold.specs.Lawful.{Deed}
use Rattle.hs_fold.specs.Shards.Parted.{NamesUpTo}
use Rattle.hs_fold.specs.Shards.Setting.{Setting}
use Rattle.hs_fold.specs.Runs.Facts.{Catalogue}
use Rattle.hs_fold.specs.Runs.Fits.{catalogue_at, MayCome}
use Rattle.hs_fold.specs.Runs.Opened.{store_of}
use Rattle.hs_fold.specs.Runs.Rounds.{may_enter}

-- an Enter may wait where its epoch is entered already, or the shard may enter it now
abbrev pub EnterWaits : List Catalogue → ℕ → ℕ → Type 0
EnterWaits cs shard epoch =
    (epoch ≤ (catalogue_at cs shard).epoch) ⊎ (may_enter (catalogue_at cs shard) epoch ≡ true) × IsTrue (store_may_enter (store_of cs) shard)

-- any other entry where what it rests on is there now: of a Got, its sender keeps the round as sent
abbrev pub EntryWaits : List Catalogue → ℕ → Entry → Type 0
EntryWaits cs shard (kind.Enter op epoch) = EnterWaits cs shard epoch
EntryWaits cs shard (kind.View view) = Unit {0}
EntryWaits cs shard (kind.Block op least bytes) = MayCome cs shard (kind.Block op least bytes)
EntryWaits cs shard (kind.Mark op least block address) = MayCome cs shard (kind.Mark op least block address)
EntryWaits cs shard (kind.Root op held address key) = MayCome cs shard (kind.Root op held address key)
EntryWaits cs shard (kind.Drop op key) = Unit {0}
EntryWaits cs shard (kind.Got sender epoch round total deltas) =
    (sender < length cs) × MayCome cs shard (kind.Got sender epoch round total deltas)
EntryWaits cs shard (kind.Base view epoch swept round frames) = Unit {0}
EntryWaits cs shard (kind.KeptBlock born mark flags count bytes) = Unit {0}
EntryWaits cs shard (kind.KeptRoot created dropped counted address key) = Unit {0}
EntryWaits cs shard (kind.KeptRound way other epoch round total deltas) = Unit {0}

-- an entry waits that is of a shard and behind what took effect of it; a Mark names a block that took effect
pub record Waits (set : Setting) (front : ℕ → ℕ) (cs : List Catalogue) (deed : Deed) : Type 0 where
  pub of : deed.shard < set.shape.shards
  pub above : front deed.shard < deed.number
  pub names : NamesUpTo (front deed.shard) deed.entry
  pub may : EntryWaits cs deed.shard deed.entry

-- so each of some
abbrev pub AllWait : Setting → (ℕ → ℕ) → List Catalogue → List Deed → Type 0
AllWait set front cs [] = Unit {0}
AllWait set front cs (deed ∷ deeds) = Waits set front cs deed × AllWait set front cs deeds
