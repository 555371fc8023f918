-- What a stop at a moment of a run may leave on the disk of a peer.
use Rattle.std.specs.Prelude.{ℕ, List, [], slice_index_or}
use Rattle.hs_ports.specs.declared.disk.Side.{Side}
use Rattle.hs_ports.specs.Disk.{IsImage, Standing}

-- a disk may have left this at a moment: the contents of both sides
pub record IsLeft (disk : Standing) (moment : ℕ) (image : Side → List ℕ) : Type 0 where
  pub sides : (side : Side) → IsImage (disk.past moment side) (image side)

-- the image of the disk of a peer
abbrev pub image_at : List (Side → List ℕ) → ℕ → (Side → List ℕ)
image_at images peer = slice_index_or images peer (λ side. [])
