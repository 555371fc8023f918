-- Catalogues that have only what is of their shard, in order, and retain no key twice.
use Rattle.std.specs.Prelude.{◌≡◌, ℕ, ◌+◌, true, false, List, [], ◌∷◌, is_none}
use Rattle.std.specs.List.{AllByRecursion}
use Rattle.hs_model.specs.Store.{Root, is_retained}
use Rattle.hs_roots.specs.ByKey.{StandByKey}
use Rattle.hs_fold.specs.Shards.Mine.{IsMine}
use Rattle.hs_fold.specs.Runs.Facts.{Catalogue, RootFacts, plain, roots_of}

-- root records by key; a retained one is the last of its key
abbrev pub AreKeyed : List RootFacts → Type 0
AreKeyed roots = StandByKey (λ (r : RootFacts). r.root.key) (λ (r : RootFacts). is_none r.root.dropped) roots

-- behind a retained root none is retained under its key
abbrev pub OneRetained : List Root → Type 0
OneRetained [] = Unit {0}
OneRetained (r ∷ rs) = (is_none r.dropped ≡ true → AllByRecursion (λ q. is_retained r.key q ≡ false) rs) × OneRetained rs

pub record IsOwn (shards shard : ℕ) (c : Catalogue) : Type 0 where
  pub mine : IsMine shards shard (plain c)
  pub once : OneRetained (roots_of c.roots)

-- so each of some, from a shard on
abbrev pub AreOwn : ℕ → ℕ → List Catalogue → Type 0
AreOwn shards shard [] = Unit {0}
AreOwn shards shard (c ∷ cs) = IsOwn shards shard c × AreOwn shards (shard + 1) cs
