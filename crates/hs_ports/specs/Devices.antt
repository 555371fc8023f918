-- What contracts see of the devices in memory.
use Rattle.std.specs.Prelude.{ℕ, List}

-- a source in memory: the bytes that are left, the numbers of the calls that fail, and two counts
pub record Feed : Type 0 where
  pub left : List ℕ
  pub fails : List ℕ
  pub calls : ℕ
  pub faults : ℕ

-- a sink in memory: the bytes that were put, each with its moment, and the same
pub record Intake : Type 0 where
  pub got : List (ℕ × ℕ)
  pub fails : List ℕ
  pub calls : ℕ
  pub faults : ℕ
