-- What the last deletions of a load begin with, and what they leave.
use Rattle.std.specs.Prelude.{◌≡◌, ◌<◌, ◌≤◌, ◌+◌, ℕ, Contains, List, Some, filter, is_none, length, map, slice_index}
use Rattle.hs_laws.specs.Distinct.{HasDistinctAddresses}
use Rattle.hs_laws.specs.Valid.{IsValid}
use Rattle.hs_limits.specs.declared.address.Address.{Address}
use Rattle.hs_model.specs.declared.deed.Deed.{Deed}
use Rattle.hs_model.specs.declared.deed.Deed.TheVariants as deed
use Rattle.hs_model.specs.Store.{Root, Store}

-- what the retained roots keep
abbrev pub retained_addresses : Store → List Address
retained_addresses s = map (λ root. root.address) (filter (λ root. is_none root.dropped) s.roots)

-- a deed of a deletion run, of a refusal, or of a note
abbrev pub ChangesNothingHeld : Deed → Type 0
ChangesNothingHeld (deed.Opened name) = ⊥
ChangesNothingHeld (deed.Closed name) = ⊥
ChangesNothingHeld (deed.Wrote name a pointers handle) = ⊥
ChangesNothingHeld (deed.Marked name a handle) = ⊥
ChangesNothingHeld (deed.ReadBlock name a epoch handles) = ⊥
ChangesNothingHeld (deed.Looked name key handle) = ⊥
ChangesNothingHeld (deed.Rooted key a) = ⊥
ChangesNothingHeld (deed.Dropped key) = ⊥
ChangesNothingHeld (deed.Forgot name handle) = ⊥
ChangesNothingHeld (deed.Entered shard) = Unit {0}
ChangesNothingHeld (deed.Swept shard) = Unit {0}
ChangesNothingHeld (deed.Refused o) = Unit {0}
ChangesNothingHeld deed.Nothing = Unit {0}

-- a valid store in which nothing is ahead of an epoch: no shard, and no drop of a root
pub record IsUpTo (s : Store) (epoch : ℕ) : Type 0 where
  pub valid : IsValid s
  pub distinct : HasDistinctAddresses s
  pub entered : (shard : ℕ) → shard < length s.epochs → slice_index s.epochs shard ≤ epoch
  pub dropped : (root : Root) (d : ℕ) → Contains s.roots root → root.dropped ≡ Some d → d ≤ epoch

-- each shard has swept two epochs more
abbrev pub HaveSweptTwice : Store → ℕ → Type 0
HaveSweptTwice s epoch = (shard : ℕ) → shard < length s.epochs → epoch + 2 ≤ slice_index s.swept shard
