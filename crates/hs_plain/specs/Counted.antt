-- What the store in memory counts by shard.
use Rattle.std.specs.Prelude.{◌≡◌, ℕ, ◌<◌, List, length, slice_index}
use Rattle.hs_limits.specs.declared.address.Address.{Address}
use Rattle.hs_model.specs.declared.store.StoredBlock.{StoredBlock}
use Rattle.hs_model.specs.Store.{Root}

-- the present blocks, and over how many shards they are counted
pub record CountedBlocks : Type 0 where
  pub shards : ℕ
  pub entries : List (Address × StoredBlock)

-- the roots, and over how many shards the retained ones are counted
pub record CountedRoots : Type 0 where
  pub shards : ℕ
  pub roots : List Root

-- each place of a list has the count of its shard
pub record AreCounts (counts : List ℕ) (count : ℕ → ℕ) : Type 0 where
  pub of_shard : (shard : ℕ) → shard < length counts → slice_index counts shard ≡ count shard
