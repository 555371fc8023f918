-- Which causes are the same.
use Rattle.std.specs.Prelude.{◌≡◌, ℕ, ◌==◌, ◌&&◌, Bool, false, List, Option, bytes_eq}
use Rattle.std.specs.List.{list_any}
use Rattle.std.specs.Option.{option_map_or}
use Rattle.hs_waits.specs.declared.cause.Cause.{Cause}
use Rattle.hs_waits.specs.declared.cause.Cause.TheVariants.{View, BlockRoom, RootRoom, Block, Other}

-- whether both are the same
abbrev pub is_same : Cause → Cause → Bool
is_same (View s) (View t) = s == t
is_same (BlockRoom s) (BlockRoom t) = s == t
is_same (RootRoom s) (RootRoom t) = s == t
is_same (Block s a) (Block t b) = s == t && bytes_eq a.0 b.0
is_same (Other s) (Other t) = s == t
is_same c d = false

-- whether a line waits for this
abbrev pub waits : List (Cause × ℕ) → Cause → ℕ → Bool
waits lines c line = list_any (λ e. is_same c e.0 && line == e.1) lines

-- each line waits for what it has to, and for nothing else
abbrev pub AreWaits : (ℕ → Option Cause) → List (Cause × ℕ) → Type 0
AreWaits causes lines = (c : Cause) (n : ℕ) → waits lines c n ≡ option_map_or (λ d. is_same d c) (causes n) false
