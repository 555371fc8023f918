-- The whole lists of all shards, of which a part took effect and the rest waits.
use Rattle.std.specs.Prelude.{List, [], drop, take, ℕ, ◌+◌, ◌∷◌}
use Rattle.std.proofs.Common.{zero, suc}
use Rattle.hs_fold.specs.Runs.Facts.{Catalogue}
use Rattle.hs_fold.specs.Runs.Opened.{catalogues}
use Rattle.hs_fold.specs.Shards.Setting.{Numbered, Setting}

-- by shard its whole list, and how many of its entries took effect
pub record Lists : Type 0 where
  pub whole : ℕ → Numbered
  pub front : ℕ → ℕ

-- the whole lists of so many shards, from one on
abbrev pub whole_from : Lists → ℕ → ℕ → List Numbered
whole_from lists shard zero = []
whole_from lists shard (suc n) = lists.whole shard ∷ whole_from lists (shard + 1) n

-- what took effect of them
abbrev pub settled_from : Lists → ℕ → ℕ → List Numbered
settled_from lists shard zero = []
settled_from lists shard (suc n) = take (lists.front shard) (lists.whole shard) ∷ settled_from lists (shard + 1) n

-- of all shards, and its catalogues
abbrev pub settled : Setting → Lists → List Numbered
settled set lists = settled_from lists 0 set.shape.shards

abbrev pub settled_catalogues : Setting → Lists → List Catalogue
settled_catalogues set lists = catalogues set 0 (settled set lists)

-- what waits of a shard
abbrev pub waiting : Lists → ℕ → Numbered
waiting lists shard = drop (lists.front shard) (lists.whole shard)
