-- Whose header a stop leaves on a disk.
use Rattle.std.specs.Prelude.{◌≡◌, ◌≤◌, ◌<◌, ◌-◌, ◌^◌, ℕ, ⊤, List, OnOk, Option, Result, Some, length}
use Rattle.hs_cluster.specs.declared.fault.ClusterFault.{ClusterFault}
use Rattle.hs_cluster.specs.Disks.{DiskSeen, log_at, stands_of}
use Rattle.hs_cluster.specs.Past.{HasSomeLog}
use Rattle.hs_limits.specs.declared.shape.Shape.{Shape}
use Rattle.hs_peerlog.specs.Heads.{IsBlankOrOf, LeavesHeader}
use Rattle.hs_peerlog.specs.Lists.{Keeping}
use Rattle.hs_ports.specs.declared.disk.Side.{Side}
use Rattle.hs_ports.specs.Disk.{IsImage, Standing}
use Rattle.hs_ports.specs.Moments.{disk_at}
use Rattle.hs_side.specs.Current.{current}
use Rattle.hs_side.specs.declared.header.Header.{Header}
use Rattle.hs_side.specs.Headers.{own_header}
pub use Rattle.hs_taking.specs.Headed.{KeepsHeads}
use Rattle.hs_taking.specs.Past.{PastStays}

-- a log has this header, and some list on its disk, whatever a stop leaves
pub record HasHeaded (header : Header) (keeping : Keeping) (disk : Standing) : Type 0 where
  pub generation : ℕ
  pub head : keeping.log.head ≡ Some (header, generation)
  pub some : HasSomeLog keeping disk

-- no call of a disk is ahead; a stop leaves it blank, or with this header; and so its log, where it is in use
pub record IsHeaded (header : Header) (now : ℕ) (slot : Option Keeping) (disk : Standing) : Type 0 where
  pub called : disk.last ≤ now
  pub leaves : LeavesHeader disk header
  pub log : (keeping : Keeping) → slot ≡ Some keeping → HasHeaded header keeping disk

-- calls from the moment before to now: what is past stays, and at each moment a stop leaves it so; and with the log that is in use then
pub record StaysHeaded (header : Header) (before now : ℕ) (old new : Standing) (kept : Option Keeping) : Type 0 where
  pub disk : KeepsHeads header before now old new
  pub log : (keeping : Keeping) → kept ≡ Some keeping → HasHeaded header keeping new

-- with this log, where what was done came to its end
pub record LeavesHeaded {T E : Type 0} (header : Header) (before now : ℕ) (old new : Standing) (keeping : Keeping) (done : Result T E) : Type 0 where
  pub disk : KeepsHeads header before now old new
  pub log : OnOk done (HasHeaded header keeping new)

-- ---- of a peer

abbrev pub IsHeadedAt : Header → ℕ → List (Option Keeping) → List DiskSeen → ℕ → Type 0
IsHeadedAt header now logs disks peer = IsHeaded header now (log_at logs peer) (disk_at (stands_of disks) peer)

abbrev pub StaysHeadedAt : Header → ℕ → ℕ → List DiskSeen → List (Option Keeping) → List DiskSeen → ℕ → Type 0
StaysHeadedAt header before now disks after left peer = StaysHeaded header before now (disk_at (stands_of disks) peer) (disk_at (stands_of left) peer) (log_at after peer)

-- ---- some calls, as what they show of a disk

-- from the moment before to now what is past of a disk stays, and a stop leaves it blank, or with this header, at each moment up to now and from then on
pub record LeavesItsHeader (header : Header) (before now : ℕ) (old new : Standing) : Type 0 where
  pub past : PastStays before now old new
  pub each : (m : ℕ) → before < m → m ≤ now → m < 2 ^ 64 - 1 → (image : Side → List ℕ) → ((side : Side) → IsImage (new.past m side) (image side)) → IsBlankOrOf header (image (current image))
  pub leaves : LeavesHeader new header

-- so of the disk of a peer; and where what was done came to its end, with these logs, so has its log
pub record LeavesHeads (header : Header) (before now : ℕ) (disks left : List DiskSeen) (logs : List (Option Keeping)) (done : Result ⊤ ClusterFault) (peer : ℕ) : Type 0 where
  pub disk : LeavesItsHeader header before now (disk_at (stands_of disks) peer) (disk_at (stands_of left) peer)
  pub log : OnOk done ((keeping : Keeping) → log_at logs peer ≡ Some keeping → HasHeaded header keeping (disk_at (stands_of left) peer))

-- at entry no call of the disk of a peer is ahead, and a stop leaves it blank, or with its own header
pub record IsOwnAt (shape : Shape) (now : ℕ) (disks : List DiskSeen) (peer : ℕ) : Type 0 where
  pub within : peer < length disks
  pub called : (disk_at (stands_of disks) peer).last ≤ now
  pub leaves : LeavesHeader (disk_at (stands_of disks) peer) (own_header shape peer)
