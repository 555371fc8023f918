-- Catalogues that have only what is of their shard, in order.
use Rattle.std.specs.Prelude.{◌≡◌, ℕ, ◌+◌, false, List, [], ◌∷◌}
use Rattle.std.specs.List.{AllByRecursion}
use Rattle.std.specs.List.Sorted.{IsStrictlySortedBy}
use Rattle.std.specs.Map.{keys_of}
use Rattle.std.specs.Ordering.{is_gt}
use Rattle.hs_limits.specs.Shape.{shard_of, shard_of_key}
use Rattle.hs_model.specs.Store.{Root, address_cmp, root_cmp}
use Rattle.hs_fold.specs.Shards.Catalogue.{Catalogue}

-- no root comes after a later one
abbrev pub IsRising : List Root → Type 0
IsRising [] = Unit {0}
IsRising (root ∷ roots) = AllByRecursion (λ later. is_gt (root_cmp root later) ≡ false) roots × IsRising roots

-- the blocks ascend by address and are of the shard, so are the roots
pub record IsMine (shards shard : ℕ) (c : Catalogue) : Type 0 where
  pub ordered : IsStrictlySortedBy address_cmp (keys_of c.blocks)
  pub blocks : AllByRecursion (λ a. shard_of shards a ≡ shard) (keys_of c.blocks)
  pub rising : IsRising c.roots
  pub roots : AllByRecursion (λ (root : Root). shard_of_key shards root.key ≡ shard) c.roots

-- so each of some, from a shard on
abbrev pub AreMine : ℕ → ℕ → List Catalogue → Type 0
AreMine shards shard [] = Unit {0}
AreMine shards shard (c ∷ cs) = IsMine shards shard c × AreMine shards (shard + 1) cs
