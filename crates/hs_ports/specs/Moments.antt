-- What calls leave at every moment, on one disk and on several under one watch.
use Rattle.std.specs.Prelude.{◌≡◌, ◌≢◌, ℕ, ◌-◌, ◌^◌, ◌<◌, ◌≤◌, List, length, slice_index_or}
use Rattle.hs_ports.specs.declared.disk.Side.{Side}
use Rattle.hs_ports.specs.Disk.{Standing, IsImage, Untouched, other_side}
use Rattle.hs_ports.specs.MemoryDisk.{untold}

-- calls on one side, from the moment before to now: a crash at a moment after before, or from
-- now on, leaves only contents that have P, and all else stays; nothing is said of the last
-- moment of a u64
pub record EachMoment (before now : ℕ) (side : Side) (old new : Standing)
    (P : List ℕ → Type 0) : Type 0 where
  pub later : before ≤ now
  -- the disk was not changed at a moment after now
  pub last : new.last ≤ now
  pub earlier : (m : ℕ) → m ≤ before → m < 2 ^ 64 - 1 → new.past m side ≡ old.past m side
  pub each : (m : ℕ) → before < m → m < 2 ^ 64 - 1
      → (content : List ℕ) → IsImage (new.past m side) content → P content
  pub standing : (content : List ℕ) → IsImage (new.loose side) content → P content
  pub other : Untouched (other_side side) old new

-- the disk of this number in a list
abbrev pub disk_at : List Standing → ℕ → Standing
disk_at disks i = slice_index_or disks i untold

-- several disks under one watch: calls on one of them, by its number, and on no other
pub record EachMomentOfOne (before now i : ℕ) (side : Side) (old new : List Standing)
    (P : List ℕ → Type 0) : Type 0 where
  pub count : length new ≡ length old
  pub acts : EachMoment before now side (disk_at old i) (disk_at new i) P
  pub others : (k : ℕ) → k ≢ i → disk_at new k ≡ disk_at old k

-- the same of calls on all of them: each disk has a side in use, and a P of its own
pub record EachMomentOfAll (before now : ℕ) (side : ℕ → Side) (old new : List Standing)
    (P : ℕ → List ℕ → Type 0) : Type 0 where
  pub count : length new ≡ length old
  pub later : before ≤ now
  pub each : (i : ℕ) → i < length old
      → EachMoment before now (side i) (disk_at old i) (disk_at new i) (P i)
