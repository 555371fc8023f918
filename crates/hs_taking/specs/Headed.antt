-- Whose header a stop leaves on a disk while a store opens, and that of a log which is in use then.
use Rattle.std.specs.Prelude.{◌≡◌, ◌≤◌, ℕ, List, Option, Some}
use Rattle.hs_limits.specs.declared.shape.Shape.{Shape}
use Rattle.hs_peerlog.specs.Heads.{KeepsHeader, LeavesHeader}
use Rattle.hs_peerlog.specs.Lists.{Keeping}
use Rattle.hs_ports.specs.Disk.{Standing}
use Rattle.hs_side.specs.declared.header.Header.{Header}
use Rattle.hs_side.specs.Headers.{own_header}
use Rattle.hs_taking.specs.Disks.{DiskSeen, seen_at}
use Rattle.hs_taking.specs.Past.{PastStays}

-- ---- a disk

-- calls from the moment before to now: what is past stays, and at each moment a stop leaves the disk blank, or with this header
pub record KeepsHeads (header : Header) (before now : ℕ) (old new : Standing) : Type 0 where
  pub past : PastStays before now old new
  pub keeps : KeepsHeader before new header

-- so where no call of it was ahead, and a stop left it so
abbrev pub KeepsItsHeader : Type 0 → Header → ℕ → ℕ → DiskSeen → DiskSeen → Type 0
KeepsItsHeader tells header before now old new =
    tells → old.stands.last ≤ before → LeavesHeader old.stands header → KeepsHeads header before now old.stands new.stands

-- of the disk of each peer with its own header
pub record KeepTheirHeaders (tells : Type 0) (shape : Shape) (before now : ℕ) (old new : List DiskSeen) : Type 0 where
  pub each : (peer : ℕ) → KeepsItsHeader tells (own_header shape peer) before now (seen_at old peer) (seen_at new peer)

-- ---- a log

-- it has this header
abbrev pub IsUnder : Header → Keeping → Type 0
IsUnder header keeping = (generation : ℕ) × (keeping.log.head ≡ Some (header, generation))

-- where it is in use
abbrev pub OwnsLog : Header → Option Keeping → Type 0
OwnsLog header kept = (keeping : Keeping) → kept ≡ Some keeping → IsUnder header keeping

-- of each peer with its own header
pub record OwnTheirLogs (tells : Type 0) (shape : Shape) (logs : ℕ → Option Keeping) : Type 0 where
  pub each : tells → (peer : ℕ) → OwnsLog (own_header shape peer) (logs peer)
