-- What a crash leaves of a whole disk, as lists.
use Rattle.std.specs.Prelude.{◌≡◌, ◌⊎◌, ℕ, ◌-◌, ◌^◌, ◌<◌, ◌≤◌, true, List, Some}
use Rattle.hs_ports.specs.declared.disk.Side.{Side}
use Rattle.hs_ports.specs.Disk.{Loose, Standing, IsImage, settled}
use Rattle.hs_entry.specs.declared.entry.Entry.{Entry}
use Rattle.hs_side.specs.Current.{current, list_in}
use Rattle.hs_side.specs.Reading.{is_blank}

-- both sides as a crash may leave them from now on
pub record IsStanding (disk : Standing) (image : Side → List ℕ) : Type 0 where
  pub sides : (side : Side) → IsImage (disk.loose side) (image side)

-- an image has a list of which this holds
pub record GivesList (P : List (ℕ × Entry) → Type 0) (image : Side → List ℕ) : Type 0 where
  pub list : List (ℕ × Entry)
  pub read : list_in image ≡ Some list
  pub holds : P list

-- calls on a disk, from the moment before to now: each image of a moment after before, and each
-- from now on, has a list of which this holds; nothing is said of the last moment of a u64
pub record LeavesEach (before now : ℕ) (old new : Standing) (P : List (ℕ × Entry) → Type 0)
    : Type 0 where
  pub later : before ≤ now
  -- the disk was not changed at a moment after now
  pub last : new.last ≤ now
  pub earlier : (side : Side) (m : ℕ) → m ≤ before → m < 2 ^ 64 - 1
      → new.past m side ≡ old.past m side
  pub each : (m : ℕ) → before < m → m < 2 ^ 64 - 1 → (image : Side → List ℕ)
      → ((side : Side) → IsImage (new.past m side) (image side)) → GivesList P image
  pub standing : (image : Side → List ℕ) → IsStanding new image → GivesList P image

-- this list
abbrev pub Is : List (ℕ × Entry) → List (ℕ × Entry) → Type 0
Is one list = list ≡ one

-- one of these two
abbrev pub IsOne : List (ℕ × Entry) → List (ℕ × Entry) → List (ℕ × Entry) → Type 0
IsOne one other list = (list ≡ one) ⊎ (list ≡ other)

-- one of these, of which there may be many, as the fronts `take n list` of a list
pub record IsAny (lists : ℕ → List (ℕ × Entry)) (list : List (ℕ × Entry)) : Type 0 where
  pub at : ℕ
  pub same : list ≡ lists at

-- every image has one of these lists
abbrev pub LeavesAny : Standing → (ℕ → List (ℕ × Entry)) → Type 0
LeavesAny disk lists =
    (image : Side → List ℕ) → IsStanding disk image → GivesList (IsAny lists) image

-- every image has this list
abbrev pub LeavesOnly : Standing → List (ℕ × Entry) → Type 0
LeavesOnly disk list =
    (image : Side → List ℕ) → IsStanding disk image → list_in image ≡ Some list

-- whatever a crash leaves, this side is current: so it is also while an entry waits, whose body may
-- not be on the medium
abbrev pub IsSole : Side → Standing → Type 0
IsSole side disk = (image : Side → List ℕ) → IsStanding disk image → current image ≡ side

-- this side is current, and all of both is on the medium
pub record IsAlone (side : Side) (disk : Standing) : Type 0 where
  pub current : current disk.seen ≡ side
  pub settled : (s : Side) → disk.loose s ≡ settled (disk.seen s)

-- calls that leave all as it is: a crash at a moment after before, or from now on, leaves on each
-- side only what it could leave before
pub record LeavesAll (before now : ℕ) (old new : Standing) : Type 0 where
  pub later : before ≤ now
  pub last : new.last ≤ now
  pub earlier : (side : Side) (m : ℕ) → m ≤ before → m < 2 ^ 64 - 1
      → new.past m side ≡ old.past m side
  pub each : (side : Side) (m : ℕ) → before < m → m < 2 ^ 64 - 1
      → (content : List ℕ) → IsImage (new.past m side) content → IsImage (old.loose side) content
  pub standing : (side : Side) (content : List ℕ)
      → IsImage (new.loose side) content → IsImage (old.loose side) content

-- blank, or what a crash could leave before
pub record GivesClosed (loose : Loose) (content : List ℕ) : Type 0 where
  pub one : (is_blank content ≡ true) ⊎ IsImage loose content
