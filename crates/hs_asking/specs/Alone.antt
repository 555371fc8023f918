-- What a client alone is answered, and what it can rely on: each operation from a store s to a store t, where a session holds these handles.
use Rattle.std.specs.List.{range_with_len}
use Rattle.std.specs.Prelude.{ℕ, ◌+◌, ◌≡◌, ◌≤◌, ◌⊎◌, List, [], ◌∷◌, ◌++◌, None, Some, length}
use Rattle.hs_asking.specs.Seats.{HasSeat, numbered}
use Rattle.hs_asking.specs.Staying.{Stays}
use Rattle.hs_laws.specs.Written.{IsBlockAt}
use Rattle.hs_limits.specs.Block.{Block}
use Rattle.hs_limits.specs.declared.address.Address.{Address}
use Rattle.hs_limits.specs.declared.address.Held.{Held}
use Rattle.hs_limits.specs.declared.limits.Limits.{Limits}
use Rattle.hs_limits.specs.declared.spelling.TheConstants.{MOST_POINTERS}
use Rattle.hs_model.proofs.Members.{Member}
use Rattle.hs_model.specs.Store.{Root, Store, block_at, helds_of, retained_at}
use Rattle.hs_model.specs.declared.reply.Reply.{Reply}
use Rattle.hs_model.specs.declared.reply.Reply.TheVariants as reply
use Rattle.hs_model.specs.declared.store.StoredBlock.{StoredBlock}

-- its session holds these afterwards; what a handle stands for that it held before and holds still leads to the same blocks; and each key keeps its root
pub record Goes (s t : Store) (name : List ℕ) (es : List (ℕ × Held)) (next : ℕ) (fs : List (ℕ × Held)) : Type 0 where
  pub seat : HasSeat t name next fs
  pub stays : (e : ℕ × Held) → Member e es → Member e fs → Stays s t e.1.address
  pub roots : (key : List ℕ) → retained_at t key ≡ retained_at s key

-- an open is answered
pub record IsOpened (s t : Store) (name : List ℕ) (told : Reply) : Type 0 where
  pub told_is : told ≡ reply.Ok
  pub goes : Goes s t name [] 0 []

-- a write is done, or refused for its block
pub data IsWritten (limits : Limits) (s t : Store) (name : List ℕ) (next : ℕ) (es : List (ℕ × Held)) (a : Address) (block : Block) (told : Reply) : Type 0 where
  written : (epoch : ℕ) → (told ≡ reply.New next epoch) ⊎ (told ≡ reply.Dup next epoch) → Goes s t name es (next + 1) (es ++ (next, record { address = a; epoch = epoch }) ∷ []) → IsBlockAt t a block → IsWritten limits s t name next es a block told
  unwritten : (told ≡ reply.Collision) ⊎ (told ≡ reply.ShardFull limits.blocks) → Goes s t name es next es → IsWritten limits s t name next es a block told

-- a read tells the block that the handle stands for, and its pointers are held
pub record IsRead (s t : Store) (name : List ℕ) (next : ℕ) (es : List (ℕ × Held)) (held : Held) (told : Reply) : Type 0 where
  pub stored : StoredBlock
  pub present : block_at t held.address ≡ Some stored
  pub few : length stored.pointers ≤ MOST_POINTERS
  pub told_is : told ≡ reply.Bytes stored.bytes (range_with_len next (length stored.pointers))
  pub goes : Goes s t name es (next + length stored.pointers) (es ++ numbered next (helds_of stored.pointers held.epoch))

-- a look is answered by the root's address, or there is none
pub data IsLooked (s t : Store) (name : List ℕ) (next : ℕ) (es : List (ℕ × Held)) (key : List ℕ) (told : Reply) : Type 0 where
  looked : (root : Root) (epoch : ℕ) → retained_at t key ≡ Some root → told ≡ reply.Held next epoch → Goes s t name es (next + 1) (es ++ (next, record { address = root.address; epoch = epoch }) ∷ []) → IsLooked s t name next es key told
  nothing : told ≡ reply.NoKey key → retained_at t key ≡ None → Goes s t name es next es → IsLooked s t name next es key told

-- the key keeps what the handle stands for, or is refused
pub data IsRooted (limits : Limits) (s t : Store) (name : List ℕ) (next : ℕ) (es : List (ℕ × Held)) (key : List ℕ) (held : Held) (told : Reply) : Type 0 where
  rooted : told ≡ reply.Ok → (root : Root) → retained_at t key ≡ Some root → root.address ≡ held.address → HasSeat t name next es → ((e : ℕ × Held) → Member e es → Stays s t e.1.address) → IsRooted limits s t name next es key held told
  unrooted : (told ≡ reply.KeyTaken key) ⊎ (told ≡ reply.RootsFull limits.roots) → Goes s t name es next es → IsRooted limits s t name next es key held told

-- a forget is done
pub record IsForgot (s t : Store) (name : List ℕ) (next : ℕ) (es fs : List (ℕ × Held)) (told : Reply) : Type 0 where
  pub told_is : told ≡ reply.Ok
  pub goes : Goes s t name es next fs
