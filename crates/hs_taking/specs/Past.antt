-- What becomes of the past of a disk.
use Rattle.std.specs.Prelude.{ℕ}
use Rattle.hs_peerlog.specs.Past as log
use Rattle.hs_ports.specs.Disk.{Standing}

-- calls from the moment before to now: none is ahead of now, and what a stop may have left at an earlier moment stays; nothing is said of the last moment of a u64
abbrev pub PastStays : ℕ → ℕ → Standing → Standing → Type 0
PastStays before now old new = log.PastStays before now old new
