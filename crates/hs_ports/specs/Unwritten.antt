-- Disks that were not written.
use Rattle.std.specs.Prelude.{List, ℕ, ◌-◌, ◌<◌, ◌^◌, ◌≡◌}
use Rattle.hs_ports.specs.Disk.{IsImage, Standing}
use Rattle.hs_ports.specs.declared.disk.Side.{Side}

-- a disk was not written: it reads as before, and what a stop leaves on it, from now on or at any moment since entry, a stop might have left at entry
pub record IsUnwritten (entry : ℕ) (old new : Standing) : Type 0 where
  pub seen : (side : Side) → new.seen side ≡ old.seen side
  pub later : (side : Side) (content : List ℕ) → IsImage (new.loose side) content → IsImage (old.loose side) content
  pub since : (m : ℕ) (side : Side) (content : List ℕ) → entry < m → m < 2 ^ 64 - 1 → IsImage (new.past m side) content → IsImage (old.loose side) content
