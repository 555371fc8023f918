-- Lists of several shards, each parted into what took effect and what is behind it.
use Rattle.std.specs.Prelude.{ℕ, ◌+◌, ◌≤◌, List, [], ◌∷◌, ◌++◌, All}
use Rattle.std.proofs.Common.{zero, suc}
use Rattle.hs_entry.specs.declared.entry.Entry.{Entry}
use Rattle.hs_entry.specs.declared.entry.Entry.TheVariants as kind
use Rattle.hs_fold.specs.Prefix.{last_of, GoOn}
use Rattle.hs_fold.specs.Shards.Catalogue.{Catalogue, catalogue_of}
use Rattle.hs_fold.specs.Shards.Fits.{MayCome}
use Rattle.hs_fold.specs.Shards.Happening.{Happening, happens, happenings}
use Rattle.hs_fold.specs.Shards.Setting.{Numbered, Setting, shard_in}

-- a list: the entries that took effect, and those that have not
pub record Parted : Type 0 where
  pub done : Numbered
  pub back : Numbered

-- the whole lists
abbrev pub whole_lists : List Parted → List Numbered
whole_lists [] = []
whole_lists (x ∷ xs) = (x.done ++ x.back) ∷ whole_lists xs

-- what took effect of them
abbrev pub done_lists : List Parted → List Numbered
done_lists [] = []
done_lists (x ∷ xs) = x.done ∷ done_lists xs

-- what is behind of a shard
abbrev pub back_at : List Parted → ℕ → Numbered
back_at [] shard = []
back_at (x ∷ xs) zero = x.back
back_at (x ∷ xs) (suc shard) = back_at xs shard

-- what happens by what is behind, shard by shard from this one on
abbrev pub behind_happenings : Setting → ℕ → List Parted → List Happening
behind_happenings set shard [] = []
behind_happenings set shard (x ∷ xs) =
    happenings (happens (shard_in set shard) (catalogue_of (shard_in set shard) x.done) x.back) ++ behind_happenings set (shard + 1) xs

-- ---- which may wait

-- a Mark names no entry behind this number: it waits only for a block that was stored
abbrev pub NamesUpTo : ℕ → Entry → Type 0
NamesUpTo number (kind.Mark op least block address) = block ≤ number
NamesUpTo number other = Unit {0}

-- entries of a shard may wait where it took effect up to a number: they are numbered from there on, and each may come
abbrev pub MayWait : List Catalogue → ℕ → ℕ → Numbered → Type 0
MayWait cs shard number entries = GoOn number entries × All (λ e. NamesUpTo number e.1 × MayCome cs shard e.1) entries

-- so what is behind of each shard, from this one on
abbrev pub MayAllWait : List Catalogue → ℕ → List Parted → Type 0
MayAllWait cs shard [] = Unit {0}
MayAllWait cs shard (x ∷ xs) = MayWait cs shard (last_of x.done) x.back × MayAllWait cs (shard + 1) xs
