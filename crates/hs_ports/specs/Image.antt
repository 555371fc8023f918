-- Which calls of a record a crash at a moment shows, and what it makes of their bytes.
use Rattle.std.specs.Prelude.{◌≡◌, ◌⊎◌, ℕ, ◌+◌, ◌<◌, ◌≤◌, Bool, true, false, nat_lt, nat_eq, if◌then◌else◌, List, [], ◌∷◌, length}
use Rattle.hs_ports.specs.declared.change.Change.{Change}
use Rattle.hs_ports.specs.declared.change.Deed.{Deed}
use Rattle.hs_ports.specs.declared.change.Deed.TheVariants as deed
use Rattle.hs_ports.specs.Disk.{byte_at}
use Rattle.hs_ports.specs.Called.{Called, told}

-- the calls of a record, the newest first
unfoldable pub told_onto : List Called → List Change → List Called
told_onto older [] = older
told_onto older (change ∷ changes) = told_onto (told change true ∷ older) changes

abbrev pub told_all : List Change → List Called
told_all changes = told_onto [] changes

-- a sync that was done
abbrev pub is_sync : Deed → Bool
is_sync (deed.Wrote at bytes) = false
is_sync (deed.Cut len) = false
is_sync deed.Synced = true
is_sync (deed.WriteFailed at len) = false
is_sync (deed.CutFailed len) = false
is_sync deed.SyncFailed = false

-- how many calls show at moment m, where n did and this one comes after i: a sync at m acts still
abbrev pub shown_with : ℕ → ℕ → ℕ → Change → ℕ
shown_with m i n change =
    if nat_lt change.moment m then i + 1
    else (if nat_eq change.moment m then (if is_sync change.deed then i else i + 1) else n)

-- how many calls of a record show at moment m, where n of the i before these do
unfoldable pub shown_from : ℕ → ℕ → ℕ → List Change → ℕ
shown_from m i n [] = n
shown_from m i n (change ∷ changes) = shown_from m (i + 1) (shown_with m i n change) changes

-- the same bytes but for n from a place on
pub record Filled (at n : ℕ) (old new : List ℕ) : Type 0 where
  pub size : length new ≡ length old
  pub outside : (i : ℕ) → (i < at) ⊎ (at + n ≤ i) → byte_at new i ≡ byte_at old i
