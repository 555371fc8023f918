-- The moments of a watch.
use Rattle.std.specs.Prelude.{◌≡◌, ℕ, ◌+◌, ◌-◌, ◌^◌, ◌≤◌, min}

-- the moment after this one; the last of a u64 stands still
abbrev pub next_moment : ℕ → ℕ
next_moment moment = min (moment + 1) (2 ^ 64 - 1)

-- a watch went on by one moment, or stands at the last of a u64
pub record Ticks (before now : ℕ) : Type 0 where
  pub next : now ≡ next_moment before
  pub later : before ≤ now
