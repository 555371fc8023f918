-- A root that one store has as another has it.
use Rattle.std.specs.Prelude.{◌≡◌, List, [], ◌∷◌, ℕ, Some}
use Rattle.hs_laws.specs.Written.{IsBlockAt}
use Rattle.hs_limits.specs.declared.address.Address.{Address}
use Rattle.hs_model.specs.Reach.{IsReached}
use Rattle.hs_model.specs.Store.{Root, Store, block_at, block_of, retained_at}
use Rattle.hs_model.specs.declared.store.StoredBlock.{StoredBlock}

-- an address is present in the first store, and in the second with the same block
pub record IsAlike (first second : Store) (a : Address) : Type 0 where
  pub stored : StoredBlock
  pub present : block_at first a ≡ Some stored
  pub there : IsBlockAt second a (block_of stored)

-- the key is retained in both with the same address, and each address that it reaches in the first is present in the second with the same block
pub record IsCopied (first second : Store) (key : List ℕ) : Type 0 where
  pub root : Root
  pub kept : retained_at first key ≡ Some root
  pub copy : Root
  pub kept_there : retained_at second key ≡ Some copy
  pub same : copy.address ≡ root.address
  pub blocks : (a : Address) → IsReached first (root.address ∷ []) a → IsAlike first second a
