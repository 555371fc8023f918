-- What a stop at a moment of a run may leave on the disks of the peers, so that it counts.
use Rattle.std.specs.Prelude.{◌≡◌, ◌⊎◌, ℕ, ◌<◌, Bool, true, false, List, length}
use Rattle.hs_limits.specs.declared.shape.Shape.{Shape}
use Rattle.hs_limits.specs.Shape.{peer_of}
use Rattle.hs_model.specs.declared.course.CourseItem.{CourseItem}
use Rattle.hs_ports.specs.declared.disk.Side.{Side}
use Rattle.hs_ports.specs.Disk.{Standing}
use Rattle.hs_ports.specs.Moments.{disk_at}
use Rattle.hs_side.specs.Reading.{is_blank}
use Rattle.hs_fold.specs.Good.{is_good}
use Rattle.hs_fold.specs.Images.{IsLeft, image_at}
use Rattle.hs_fold.specs.Shards.Course.{was_good}

-- the contents of both sides of a disk
abbrev pub Image : Type 0
Image = Side → List ℕ

-- a stop of a run: what happened in it, which peers opening set aside, the moment, and the disks with what they may have left
pub record Stop : Type 0 where
  pub course : List CourseItem
  pub aside : ℕ → Bool
  pub moment : ℕ
  pub disks : List Standing

-- both sides are blank
abbrev pub IsBlank : Image → Type 0
IsBlank image = (side : Side) → is_blank (image side) ≡ true

-- the disk of a peer may have left its image
abbrev pub HasLeft : Stop → List Image → ℕ → Type 0
HasLeft stop images peer = IsLeft (disk_at stop.disks peer) stop.moment (image_at images peer)

-- a peer that is good then, with an image that its disk may have left
pub record IsGoodImage (stop : Stop) (images : List Image) (peer : ℕ) : Type 0 where
  pub good : is_good stop.course stop.moment peer ≡ true
  pub left : HasLeft stop images peer

-- images that count: each shard has a good peer with one that its disk may have left; every other disk has one that it may have left, or is blank; and one that opening set aside is blank until its peer is good
pub record AreGoodImages (shape : Shape) (stop : Stop) (images : List Image) : Type 0 where
  pub count : length images ≡ length stop.disks
  pub shards : (shard : ℕ) → shard < shape.shards → (copy : ℕ) × (copy < shape.copies) × IsGoodImage stop images (peer_of shape shard copy)
  pub others : (peer : ℕ) → peer < length stop.disks → HasLeft stop images peer ⊎ IsBlank (image_at images peer)
  pub aside : (peer : ℕ) → stop.aside peer ≡ true → was_good stop.course stop.moment peer ≡ false → IsBlank (image_at images peer)
