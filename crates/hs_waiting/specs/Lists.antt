-- Lists of all shards, each parted into what took effect and what is behind it, and which of that may wait.
use Rattle.std.specs.Prelude.{ℕ, ◌+◌, List, [], ◌∷◌, ◌++◌, All}
use Rattle.hs_fold.specs.Lawful.{Deed}
use Rattle.hs_fold.specs.Prefix.{last_of, GoOn}
use Rattle.hs_fold.specs.Shards.Parted.{Parted, NamesUpTo}
use Rattle.hs_fold.specs.Shards.Setting.{Numbered}
use Rattle.hs_fold.specs.Runs.Facts.{Catalogue}
use Rattle.hs_waiting.specs.Waits.{EntryWaits}

-- entries of a shard as those of a history
abbrev pub deeds_of : ℕ → Numbered → List Deed
deeds_of shard [] = []
deeds_of shard (e ∷ es) = record { shard = shard; number = e.0; entry = e.1 } ∷ deeds_of shard es

-- all that is behind, shard by shard from this one on
abbrev pub pending_deeds : ℕ → List Parted → List Deed
pending_deeds shard [] = []
pending_deeds shard (x ∷ xs) = deeds_of shard x.back ++ pending_deeds (shard + 1) xs

-- entries of a shard may wait where it took effect up to a number: they are numbered from there on, and each waits
abbrev pub MayWait : List Catalogue → ℕ → ℕ → Numbered → Type 0
MayWait cs shard number entries = GoOn number entries × All (λ e. NamesUpTo number e.1 × EntryWaits cs shard e.1) entries

-- so what is behind of each shard, from this one on
abbrev pub MayAllWait : List Catalogue → ℕ → List Parted → Type 0
MayAllWait cs shard [] = Unit {0}
MayAllWait cs shard (x ∷ xs) = MayWait cs shard (last_of x.done) x.back × MayAllWait cs (shard + 1) xs
