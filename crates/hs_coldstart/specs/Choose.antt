-- Which of several logs a shard is opened with.
use Rattle.std.specs.List.{list_all}
use Rattle.std.specs.Prelude.{ℕ, ◌==◌, ◌&&◌, ◌||◌, Bool, true, false, not, List, Option, Some, None, nat_lt, position, if◌then◌else◌}
use Rattle.hs_entry.specs.declared.rank.Rank.{Rank}

-- whether a rank is above another: the view counts first, then the number
abbrev pub is_above : Rank → Rank → Bool
is_above a b = nat_lt b.view a.view || (a.view == b.view && nat_lt b.number a.number)

-- whether a rank is not above this one; a log that is not there has none
abbrev pub is_up_to : Rank → Option Rank → Bool
is_up_to rank None = true
is_up_to rank (Some other) = not (is_above other rank)

-- whether this is the rank of a log, and none of these ranks is above it
abbrev pub is_greatest : List (Option Rank) → Option Rank → Bool
is_greatest ranks None = false
is_greatest ranks (Some rank) = list_all (is_up_to rank) ranks

-- the first log of greatest rank
abbrev pub choose : List (Option Rank) → Option ℕ
choose ranks = position (is_greatest ranks) ranks

-- the best log so far, or this one where its rank is above that
abbrev pub better : Option (ℕ × Rank) → ℕ → Option Rank → Option (ℕ × Rank)
better best place None = best
better None place (Some rank) = Some (place, rank)
better (Some other) place (Some rank) = if is_above rank other.1 then Some (place, rank) else Some other
