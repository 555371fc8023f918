-- Disks at rest.
use Rattle.std.specs.Prelude.{Bool, List, false, length, true, ℕ, ◌+◌, ◌-◌, ◌<◌, ◌^◌, ◌≡◌, ◌≤◌}
use Rattle.hs_fold.specs.Good.{is_good}
use Rattle.hs_fold.specs.Shards.Images.{Image, IsGoodImage, Stop}
use Rattle.hs_limits.specs.declared.shape.Shape.{Shape}
use Rattle.hs_limits.specs.Shape.{peer_of}
use Rattle.hs_ports.specs.declared.disk.Side.{Side}
use Rattle.hs_ports.specs.Disk.{IsImage, Standing, settled}
use Rattle.hs_ports.specs.Moments.{disk_at}
use Rattle.hs_ports.specs.Objects.{IsSinkBehind, Objects}
use Rattle.hs_promise.specs.Entry.{counted_course}
use Rattle.hs_promise.specs.Run.{Ran, Script}
use Rattle.hs_side.specs.Current.{list_in}

-- a disk reads as an image, a crash leaves just that, and no call of it is ahead of a moment
pub record IsAtRest (image : Image) (moment : ℕ) (disk : Standing) : Type 0 where
  pub seen : (side : Side) → disk.seen side ≡ image side
  pub loose : (side : Side) → disk.loose side ≡ settled (image side)
  pub last : disk.last ≤ moment

-- so does the disk of each peer with its image, and nothing that was put is ahead
pub record AreAtRest (image : ℕ → Image) (objects : Objects) : Type 0 where
  pub each : (peer : ℕ) → IsAtRest (image peer) objects.moment (disk_at objects.disks peer)
  pub sink : IsSinkBehind objects

-- ---- behind a stop

-- each shard has a good peer that a run does not set aside, with an image that its disk may have left
abbrev pub KeepsGoodImages : Shape → Stop → List Image → (ℕ → Bool) → Type 0
KeepsGoodImages shape stop images aside =
    (shard : ℕ) → shard < shape.shards → (copy : ℕ) × (copy < shape.copies) × IsGoodImage stop images (peer_of shape shard copy) × (aside (peer_of shape shard copy) ≡ false)

-- ---- behind a run

-- what a disk reads as is among what a crash leaves, and all of that has the same list
pub record HasOneList (disk : Standing) : Type 0 where
  pub seen : (side : Side) → IsImage (disk.loose side) (disk.seen side)
  pub one : (image : Image) → ((side : Side) → IsImage (disk.loose side) (image side)) → list_in image ≡ list_in disk.seen

-- a run came to rest: from a moment of it on, or from the next one, no disk had a call; at it each peer is good, and the disk of each has one list. Nothing is said of the last moment of a u64
pub record EndsAtRest (S : Script) (r : Ran) : Type 0 where
  pub moment : ℕ
  pub above : r.old.moment < moment
  pub up_to : moment ≤ r.new.moment + 1
  pub early : moment < 2 ^ 64 - 1
  pub still : (peer : ℕ) → peer < length r.new.disks → (disk_at r.new.disks peer).last < moment
  pub good : (peer : ℕ) → peer < length r.new.disks → is_good (counted_course S r) moment peer ≡ true
  pub lists : (peer : ℕ) → peer < length r.new.disks → HasOneList (disk_at r.new.disks peer)
