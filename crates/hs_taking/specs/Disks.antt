-- The disks that are handed to a cluster.
use Rattle.std.specs.Prelude.{◌≡◌, ℕ, List, map, Option, None, Some, IfSome, slice_index_or}
use Rattle.hs_peerlog.specs.Lists.{IsReady, Keeping}
use Rattle.hs_ports.specs.declared.disk.Side.{Side}
use Rattle.hs_ports.specs.Disk.{Standing}
use Rattle.hs_ports.specs.MemoryDisk.{untold}

-- a disk as it is seen: the lengths of its sides, what it tells, and how often it has failed
pub record DiskSeen : Type 0 where
  pub size : Side → ℕ
  pub stands : Standing
  pub faults : ℕ

-- from the words of its type
abbrev pub seen_as : (Side → ℕ) → Standing → ℕ → DiskSeen
seen_as size stands faults = record { size = size; stands = stands; faults = faults }

-- what they hold
abbrev pub stands_of : List DiskSeen → List Standing
stands_of disks = map (λ disk. disk.stands) disks

-- the disk of a peer
abbrev pub seen_at : List DiskSeen → ℕ → DiskSeen
seen_at disks peer = slice_index_or disks peer (record { size = λ side. 0; stands = untold; faults = 0 })

-- the log of a peer, where its disk is in use
abbrev pub log_at : List (Option Keeping) → ℕ → Option Keeping
log_at logs peer = slice_index_or logs peer None

-- the log of a disk, where it is in use, may go on: the disk stands as the last call left it
abbrev pub IsSlotReady : Type 0 → Option Keeping → (Side → ℕ) → Standing → Type 0
IsSlotReady tells slot size stands = IfSome slot (λ keeping. IsReady tells keeping (size keeping.log.side) stands)

-- so each of some
pub record AreReady (tells : Type 0) (logs : List (Option Keeping)) (disks : List DiskSeen) : Type 0 where
  pub each : (peer : ℕ) (keeping : Keeping) → log_at logs peer ≡ Some keeping
      → IsReady tells keeping ((seen_at disks peer).size keeping.log.side) (seen_at disks peer).stands
