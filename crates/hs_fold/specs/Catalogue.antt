-- How a shard keeps a present block, and how it reads its entries.
use Rattle.std.specs.Prelude.{ℕ, List}
use Rattle.hs_limits.specs.declared.address.Address.{Address}
use Rattle.hs_limits.specs.Block.{Block}
use Rattle.hs_model.specs.declared.store.StoredBlock.{StoredBlock}

-- a present block: the number of the entry that stored it, the block with the epoch of its birth, and the greatest epoch in which a write gave it
pub record Present : Type 0 where
  pub number : ℕ
  pub stored : StoredBlock
  pub mark : ℕ

-- how blocks are named, how many shards there are, and which of them this is
pub record Shard : Type 0 where
  pub name : List ℕ → Address
  pub shards : ℕ
  pub shard : ℕ

-- a block as it is kept when it is stored
abbrev pub fresh_present : ℕ → ℕ → Block → Present
fresh_present epoch number block = record {
  number = number;
  stored = record { pointers = block.pointers; bytes = block.bytes; born = epoch };
  mark = epoch;
}
