-- What contracts see of a disk in memory.
use Rattle.std.specs.Prelude.{◌≡◌, ℕ, List, []}
use Rattle.hs_ports.specs.declared.disk.Side.{Side}
use Rattle.hs_ports.specs.declared.disk.Side.TheVariants.{Zero, One}
use Rattle.hs_ports.specs.Disk.{Standing, settled}

-- the number of this side
abbrev pub of_side : Side → ℕ → ℕ → ℕ
of_side Zero first second = first
of_side One first second = second

-- stands for the contents of a disk that doesn't tell them
abbrev pub untold : Standing
untold = record {
  seen = λ side. [];
  loose = λ side. settled [];
  past = λ m side. settled [];
  last = 0;
}

-- a disk with these bytes that no call has changed: a crash leaves them, at each moment
pub record IsFresh (zero one : List ℕ) (disk : Standing) : Type 0 where
  pub zero_seen : disk.seen Zero ≡ zero
  pub one_seen : disk.seen One ≡ one
  pub loose : (side : Side) → disk.loose side ≡ settled (disk.seen side)
  pub past : (m : ℕ) (side : Side) → disk.past m side ≡ settled (disk.seen side)
  pub last : disk.last ≡ 0
