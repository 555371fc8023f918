-- Changes of counts, as a round tells them.
use Rattle.std.specs.Prelude.{◌≤◌, ◌==◌, ℕ, List, All, map, filter, take}
use Rattle.std.specs.Cmp.Lexicographic.{slice_cmp}
use Rattle.std.specs.List.Sorted.{IsStrictlySortedBy}
use Rattle.std.specs.Ordering.{nat_cmp}
use Rattle.hs_limits.specs.declared.delta.Delta.{Delta}
use Rattle.hs_limits.specs.Limits.{greatest_limits}
use Rattle.hs_limits.specs.Shape.{shard_of}

-- each address once, ascending by its bytes, with an amount of at least 1
pub record AreChanges (deltas : List Delta) : Type 0 where
  pub ascend : IsStrictlySortedBy (λ a b. slice_cmp nat_cmp a.0 b.0) (map (λ delta. delta.address) deltas)
  pub some : All (λ delta. 1 ≤ delta.amount) deltas

-- those of a shard's blocks, where there are so many shards: of the lowest addresses, as many as a shard may have blocks
abbrev pub changes_for : ℕ → List Delta → ℕ → List Delta
changes_for shards deltas shard = take greatest_limits.blocks (filter (λ delta. shard_of shards delta.address == shard) deltas)
