-- What a write asks for, and whether it is there.
use Rattle.std.specs.Prelude.{◌≡◌, ℕ, List, [], ◌∷◌, Option, Some}
use Rattle.hs_limits.specs.Block.{Block}
use Rattle.hs_limits.specs.declared.address.Address.{Address}
use Rattle.hs_limits.specs.declared.limits.Limits.{Limits}
use Rattle.hs_model.specs.declared.op.Op.{Op}
use Rattle.hs_model.specs.declared.op.Op.TheVariants as op
use Rattle.hs_model.specs.declared.reply.Reply.{Reply}
use Rattle.hs_model.specs.declared.store.StoredBlock.{StoredBlock}
use Rattle.hs_model.specs.Refusals.{no_session, too_long, too_many, no_handle, handles_full, stale}
use Rattle.hs_model.specs.Store.{Store, block_at, epoch_at}

-- the operation is a write
pub record IsWrite (o : Op) : Type 0 where
  pub name : List ℕ
  pub payload : List ℕ
  pub handles : List ℕ
  pub address : Option Address
  pub is : o ≡ op.Write name payload handles address

-- the present block at the address has these bytes and these pointers
pub record IsBlockAt (s : Store) (a : Address) (block : Block) : Type 0 where
  pub stored : StoredBlock
  pub present : block_at s a ≡ Some stored
  pub bytes : stored.bytes ≡ block.bytes
  pub pointers : stored.pointers ≡ block.pointers

-- the present block at the address has other bytes or other pointers
pub record IsOtherAt (s : Store) (a : Address) (block : Block) : Type 0 where
  pub stored : StoredBlock
  pub present : block_at s a ≡ Some stored
  pub differs : ¬ ((stored.bytes ≡ block.bytes) × (stored.pointers ≡ block.pointers))

-- the refusals of a write that come before a collision, in their order
abbrev pub before_collision : Limits → Store → List ℕ → List ℕ → List ℕ → Address → List (Option Reply)
before_collision limits s name payload handles a =
    no_session s name ∷ too_long payload ∷ too_many handles ∷ no_handle s name handles ∷ handles_full limits s name 1 ∷ stale s name (epoch_at s a) handles ∷ []
