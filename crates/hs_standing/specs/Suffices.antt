-- What is easily told of lists, and suffices for what is asked of them.
use Rattle.std.specs.Prelude.{List, Option, Some, None, [], if◌then◌else◌, ℕ, ◌+◌, ◌∷◌, ◌++◌}
use Rattle.std.proofs.Common.{zero, suc}
use Rattle.hs_fold.specs.Pending.{asked_by}
use Rattle.hs_fold.specs.Shards.Setting.{Numbered}
use Rattle.hs_fold.specs.Shards.Fits.{puts_root}
use Rattle.hs_standing.specs.Lists.{Lists, waiting}

-- how many Root entries there are among some
abbrev pub roots_in : Numbered → ℕ
roots_in [] = 0
roots_in (e ∷ es) = (if puts_root e.1 then 1 else 0) + roots_in es

-- a line more, where one asked
abbrev pub with_asked : Option ℕ → List ℕ → List ℕ
with_asked None lines = lines
with_asked (Some line) lines = line ∷ lines

-- the lines that asked for some entries
abbrev pub asked_lines : Numbered → List ℕ
asked_lines [] = []
asked_lines (e ∷ es) = with_asked (asked_by e.1) (asked_lines es)

-- for all that waits of so many shards, from one on
abbrev pub all_asked : Lists → ℕ → ℕ → List ℕ
all_asked lists shard zero = []
all_asked lists shard (suc n) = asked_lines (waiting lists shard) ++ all_asked lists (shard + 1) n
