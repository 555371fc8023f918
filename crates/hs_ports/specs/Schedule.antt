-- Which calls of a device in memory fail.
use Rattle.std.specs.Prelude.{Bool, ℕ, ◌+◌, ◌-◌, ◌^◌, ◌==◌, min, List}
use Rattle.std.specs.List.{list_any}

-- the number of the call after this many; the last of a u64 stands still
abbrev pub next_call : ℕ → ℕ
next_call calls = min (calls + 1) (2 ^ 64 - 1)

-- one of these numbers is that of the call
abbrev pub fails_at : List ℕ → ℕ → Bool
fails_at fails call = list_any (λ number. number == call) fails
