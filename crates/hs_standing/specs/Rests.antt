-- What waits in the lists of a core rests on what is there.
use Rattle.std.specs.Prelude.{◌≡◌, ◌<◌, ◌≤◌, ℕ, List, Some, false, length, slice_get}
use Rattle.hs_answered.specs.Standing.{store_with}
use Rattle.hs_core_words.specs.Looking.{front_of, group_of}
use Rattle.hs_core_words.specs.State.{Core}
use Rattle.hs_effects.specs.Answered.{HoldAddresses}
use Rattle.hs_effects.specs.Lawful.{IsLawful}
use Rattle.hs_effects.specs.Logged.{IsOrderly}
use Rattle.hs_entry.specs.declared.entry.Entry.{Entry}
use Rattle.hs_entry.specs.declared.entry.Entry.TheVariants as kind
use Rattle.hs_entry.specs.Entries.{is_of_base}
use Rattle.hs_fold.specs.Runs.Facts.{Catalogue as Folded, Facts, facts_at}
use Rattle.hs_fold.specs.Runs.Fits.{catalogue_at}
use Rattle.hs_fold.specs.Shards.Parted.{NamesUpTo}
use Rattle.hs_laws.specs.Valid.{IsValid}
use Rattle.hs_limits.specs.declared.address.Address.{Address}
use Rattle.hs_limits.specs.declared.delta.Delta.{Delta}
use Rattle.hs_waiting.specs.Waits.{EntryWaits}

-- an entry that waits is of a shard and has what it rests on: a Mark names a block that took effect; none is of a Base
pub record IsResting (cs : List Folded) (shard front : ℕ) (entry : Entry) : Type 0 where
  pub of : shard < length cs
  pub ordinary : is_of_base entry ≡ false
  pub names : NamesUpTo front entry
  pub waits : EntryWaits cs shard entry

-- so has each entry that waits in a core
abbrev pub AreResting : Core → List Folded → Type 0
AreResting core cs =
    (shard place : ℕ) (entry : Entry) → slice_get (group_of shard core).waiting place ≡ Some entry → IsResting cs shard (front_of shard core) entry

-- so has each Got that waits
abbrev pub GotsWait : Core → List Folded → Type 0
GotsWait core cs =
    (shard place from epoch round total : ℕ) (deltas : List Delta)
    → slice_get (group_of shard core).waiting place ≡ Some (kind.Got from epoch round total deltas)
    → EntryWaits cs shard (kind.Got from epoch round total deltas)

-- each block that is present was stored by an entry that took effect
abbrev pub AreStored : Core → List Folded → Type 0
AreStored core cs =
    (shard : ℕ) (a : Address) (facts : Facts) → facts_at (catalogue_at cs shard) a ≡ Some facts → facts.present.number ≤ front_of shard core

-- a core of which all that is held may be used, and all that waits rests on what is there
pub record IsGrounded (name : List ℕ → Address) (core : Core) (cs : List Folded) : Type 0 where
  pub orderly : IsOrderly name core
  pub lawful : IsLawful name core cs
  pub valid : IsValid (store_with cs core.sessions)
  pub holds : HoldAddresses core.sessions
  pub stored : AreStored core cs
  pub resting : AreResting core cs
