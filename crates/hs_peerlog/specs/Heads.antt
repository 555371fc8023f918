-- Whose header a crash leaves on a disk.
use Rattle.std.specs.Prelude.{◌≡◌, ◌⊎◌, ℕ, ◌-◌, ◌^◌, ◌<◌, List, Option, None, Some, Ok, unwrap_or}
use Rattle.std.specs.Option.{option_map}
use Rattle.hs_limits.specs.declared.shape.Shape.{Shape}
use Rattle.hs_ports.specs.declared.disk.Side.{Side}
use Rattle.hs_ports.specs.Disk.{Standing, IsImage}
use Rattle.hs_side.specs.declared.header.Header.{Header}
use Rattle.hs_side.specs.Current.{current, generation_in, header_in}
use Rattle.hs_side.specs.Headers.{own_header}
use Rattle.hs_peerlog.specs.Images.{IsStanding}

-- these bytes of a side are blank, or have this header
pub record IsBlankOrOf (header : Header) (bytes : List ℕ) : Type 0 where
  pub one : (header_in bytes ≡ Ok None) ⊎ (header_in bytes ≡ Ok (Some header))

-- so are those of the current side of every image; of the other side nothing is known
abbrev pub LeavesHeader : Standing → Header → Type 0
LeavesHeader disk header =
    (image : Side → List ℕ) → IsStanding disk image → IsBlankOrOf header (image (current image))

-- calls on a disk from the moment before on: so is the current side of each image of a moment after
-- before, and of each from now on; nothing is said of the last moment of a u64
pub record KeepsHeader (before : ℕ) (disk : Standing) (header : Header) : Type 0 where
  pub each : (m : ℕ) → before < m → m < 2 ^ 64 - 1 → (image : Side → List ℕ)
      → ((side : Side) → IsImage (disk.past m side) (image side))
      → IsBlankOrOf header (image (current image))
  pub standing : LeavesHeader disk header

-- the head that a disk of this peer has: its own header, with its generation, None where it is blank
abbrev pub head_found : Shape → ℕ → (Side → List ℕ) → Option (Header × ℕ)
head_found shape peer seen = option_map
    (λ generation. (own_header shape peer, generation)) (generation_in (seen (current seen)))

-- and that which its log has: the same, with generation 1 where the disk is blank
abbrev pub own_head : Shape → ℕ → (Side → List ℕ) → Header × ℕ
own_head shape peer seen =
    (own_header shape peer, unwrap_or (generation_in (seen (current seen))) 1)
