-- Words of the private steps of a call; no public clause cites them.
use Rattle.std.specs.Prelude.{◌≡◌, ◌⊎◌, ℕ, ◌-◌, ◌^◌, ◌<◌, ◌≤◌, true, List}
use Rattle.hs_ports.specs.declared.disk.Side.{Side}
use Rattle.hs_ports.specs.Disk.{Standing, IsImage}
use Rattle.hs_side.specs.declared.header.Header.{Header}
use Rattle.hs_side.specs.Current.{current}
use Rattle.hs_side.specs.Giving.{GivesEmpty}
use Rattle.hs_side.specs.Reading.{is_blank}
use Rattle.hs_peerlog.specs.Images.{IsStanding}

-- what the current side of an image has
abbrev pub current_bytes : (Side → List ℕ) → List ℕ
current_bytes image = image (current image)

-- calls on a disk, from the moment before to now: what each image of a moment after before shows, and
-- what each from now on does, is so; nothing is said of the last moment of a u64
pub record ShowsEach (before now : ℕ) (old new : Standing) (P : List ℕ → Type 0) : Type 0 where
  pub later : before ≤ now
  pub last : new.last ≤ now
  pub earlier : (side : Side) (m : ℕ) → m ≤ before → m < 2 ^ 64 - 1
      → new.past m side ≡ old.past m side
  pub each : (m : ℕ) → before < m → m < 2 ^ 64 - 1 → (image : Side → List ℕ)
      → ((side : Side) → IsImage (new.past m side) (image side)) → P (current_bytes image)
  pub standing : (image : Side → List ℕ) → IsStanding new image → P (current_bytes image)

-- an image that a crash could leave shows this
pub record CouldShow (disk : Standing) (bytes : List ℕ) : Type 0 where
  pub image : Side → List ℕ
  pub stands : IsStanding disk image
  pub same : current_bytes image ≡ bytes

-- so, or blank
pub record CouldShowOrBlank (disk : Standing) (bytes : List ℕ) : Type 0 where
  pub one : CouldShow disk bytes ⊎ (is_blank bytes ≡ true)

-- what a side had, or, where that is blank, an empty log of this header and of generation 1
pub record IsKeptOrMade (seen : List ℕ) (header : Header) (bytes : List ℕ) : Type 0 where
  pub one : (bytes ≡ seen) ⊎ ((is_blank seen ≡ true) × GivesEmpty header 1 bytes)
