-- What contracts see of a disk in memory.
use Rattle.std.specs.Prelude.{ℕ, List, length}
use Rattle.hs_ports.specs.declared.disk.Side.{Side}
use Rattle.hs_ports.specs.declared.memory_disk.MemoryDisk.{MemoryDisk}
use Rattle.hs_ports.specs.Disk.{Standing}
use Rattle.hs_ports.specs.Platter.{seen_of}
use Rattle.hs_ports.specs.Sides.{standing_of, track_at}

-- what reads give, what a crash may leave, and the history of that
abbrev pub stands_of : MemoryDisk → Standing
stands_of disk = standing_of disk.sides.zero disk.sides.one

-- the length of a side
abbrev pub size_of : MemoryDisk → Side → ℕ
size_of disk side = length (seen_of (track_at disk.sides.zero disk.sides.one side))

-- the numbers of the calls that fail, and the counts of calls and faults
abbrev pub fails_of : MemoryDisk → List ℕ
fails_of disk = disk.schedule.fails.items

abbrev pub calls_of : MemoryDisk → ℕ
calls_of disk = disk.schedule.calls

abbrev pub faults_of : MemoryDisk → ℕ
faults_of disk = disk.schedule.faults
