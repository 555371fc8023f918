-- Whose header a stop leaves on a disk, with any number of copies.
use Rattle.std.specs.Prelude.{Ok, None, Some, length, ℕ, ◌<◌, ◌≡◌, ◌≤◌, ◌⊎◌}
use Rattle.hs_fold.specs.Images.{IsLeft}
use Rattle.hs_fold.specs.Shards.Images.{Image}
use Rattle.hs_ports.specs.declared.disk.Side.{Side}
use Rattle.hs_ports.specs.Disk.{IsImage}
use Rattle.hs_ports.specs.Moments.{disk_at}
use Rattle.hs_ports.specs.Objects.{IsDuring}
use Rattle.hs_promise.specs.Run.{Ran, Script}
use Rattle.hs_side.specs.Current.{current, header_in}
use Rattle.hs_side.specs.Headers.{own_header}

-- the current side of an image is blank, or has the header of this peer's disk; of the other one nothing is said
pub record IsOwnImage (S : Script) (peer : ℕ) (image : Image) : Type 0 where
  pub one : (header_in (image (current image)) ≡ Ok None) ⊎ (header_in (image (current image)) ≡ Ok (Some (own_header S.set.shape peer)))

-- no call of a peer's disk is ahead at entry, and whatever a stop left of it then was so
pub record IsOwnAtEntry (S : Script) (r : Ran) (peer : ℕ) : Type 0 where
  pub within : peer < length r.old.disks
  pub called : (disk_at r.old.disks peer).last ≤ r.old.moment
  pub leaves : (image : Image) → ((side : Side) → IsImage ((disk_at r.old.disks peer).loose side) (image side)) → IsOwnImage S peer image

-- whatever a stop leaves of such a disk is so at each moment of a run, and from its end on
pub record KeepsHeaders (S : Script) (r : Ran) : Type 0 where
  pub each : (m peer : ℕ) → IsDuring r.old r.new m → IsOwnAtEntry S r peer → (image : Image) → IsLeft (disk_at r.new.disks peer) m image → IsOwnImage S peer image
  pub behind : (peer : ℕ) → IsOwnAtEntry S r peer → (image : Image) → ((side : Side) → IsImage ((disk_at r.new.disks peer).loose side) (image side)) → IsOwnImage S peer image
