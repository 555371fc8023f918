-- A block that stands at its name.
use Rattle.std.specs.Prelude.{List, ℕ, ◌≡◌}
use Rattle.hs_limits.specs.Block.{IsBlock, spell}
use Rattle.hs_limits.specs.declared.address.Address.{Address}
use Rattle.hs_model.specs.Store.{block_of}
use Rattle.hs_model.specs.declared.store.StoredBlock.{StoredBlock}

-- a stored block is within the bounds of blocks, and its address is its name
pub record IsAtItsName (name : List ℕ → Address) (a : Address) (stored : StoredBlock) : Type 0 where
  pub bounds : IsBlock (block_of stored)
  pub named : a ≡ name (spell (block_of stored))
