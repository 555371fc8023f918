-- What a sweep is to remove, and what it leaves.
use Rattle.std.specs.Prelude.{◌≡◌, ◌↔◌, ℕ, ◌<◌, List, Some, IsTrue, Contains}
use Rattle.hs_limits.specs.declared.address.Address.{Address}
use Rattle.hs_model.specs.declared.store.StoredBlock.{StoredBlock}
use Rattle.hs_model.specs.Reach.{IsReached, anchors, is_among}
use Rattle.hs_model.specs.Store.{Store, block_at, shard_at}
use Rattle.hs_laws.specs.Reached.{IsPresent}

-- the block is of the shard, was born before the run, and no anchor of the run reaches its address
pub record IsUnreached (s : Store) (run shard : ℕ) (a : Address) (stored : StoredBlock) : Type 0 where
  pub of_shard : shard_at s a ≡ shard
  pub older : stored.born < run
  pub unreached : ¬ IsReached s (anchors s run) a

-- a list has the address of a present block exactly where the block is to be removed
abbrev pub ListsUnreached : Store → ℕ → ℕ → List Address → Type 0
ListsUnreached s run shard addresses = (a : Address) (stored : StoredBlock) → block_at s a ≡ Some stored → IsTrue (is_among addresses a) ↔ IsUnreached s run shard a stored

-- the new store has exactly those blocks of the old that are not to be removed
abbrev pub KeepsTheRest : Store → ℕ → ℕ → Store → Type 0
KeepsTheRest old run shard new = (a : Address) (stored : StoredBlock) → (block_at new a ≡ Some stored) ↔ ((block_at old a ≡ Some stored) × ¬ IsUnreached old run shard a stored)

-- of what was given, the new store has exactly what it has a block for
abbrev pub KeepsItsGiven : Store → Store → Type 0
KeepsItsGiven old new = (a : Address) (epoch : ℕ) → Contains new.given (a, epoch) ↔ (Contains old.given (a, epoch) × IsPresent new a)
