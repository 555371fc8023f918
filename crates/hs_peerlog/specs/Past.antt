-- What becomes of the past of a disk.
use Rattle.std.specs.Prelude.{◌≡◌, ◌≤◌, ◌<◌, ◌-◌, ◌^◌, ℕ}
use Rattle.hs_ports.specs.declared.disk.Side.{Side}
use Rattle.hs_ports.specs.Disk.{Standing}

-- calls from the moment before to now: none is ahead of now, and what a stop may have left at an
-- earlier moment stays; nothing is said of the last moment of a u64
pub record PastStays (before now : ℕ) (old new : Standing) : Type 0 where
  pub later : before ≤ now
  pub last : new.last ≤ now
  pub earlier : (side : Side) (m : ℕ) → m ≤ before → m < 2 ^ 64 - 1
      → new.past m side ≡ old.past m side
