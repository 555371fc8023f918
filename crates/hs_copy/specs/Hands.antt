-- What a copy's operations do to a session whose handles may grow stale.
use Rattle.std.specs.Prelude.{ℕ, ◌+◌, ◌≡◌, ◌≤◌, ◌⊎◌, List, [], ◌∷◌, ◌++◌, Some, slice_index}
use Rattle.std.specs.List.{AllByRecursion}
use Rattle.hs_asking.specs.Seats.{Ascend, IsSane}
use Rattle.hs_copy.specs.Writing.{IsStale}
use Rattle.hs_limits.specs.Block.{Block}
use Rattle.hs_limits.specs.declared.address.Address.{Address}
use Rattle.hs_limits.specs.declared.address.Held.{Held}
use Rattle.hs_limits.specs.declared.limits.Limits.{Limits}
use Rattle.hs_model.specs.Store.{Root, Store, block_at, block_of, retained_at, session_at}
use Rattle.hs_model.specs.declared.reply.Reply.{Reply}
use Rattle.hs_model.specs.declared.reply.Reply.TheVariants as reply
use Rattle.hs_model.specs.declared.store.StoredBlock.{StoredBlock}
use Rattle.hs_tree.specs.Storing.{our_session}

-- the session holds these handles, which were given in an epoch or later
pub record HasHands (s : Store) (since next : ℕ) (es : List (ℕ × Held)) : Type 0 where
  pub sane : IsSane s
  pub opened : session_at s our_session ≡ Some (record { next = next; handles = es })
  pub ascend : Ascend 0 es next
  pub given : AllByRecursion (λ (e : ℕ × Held). since ≤ e.1.epoch + 1) es
  pub now : since ≤ slice_index s.epochs 0

-- where an address is present it has this block
abbrev pub HasOnly : Store → Address → Block → Type 0
HasOnly s a block = (stored : StoredBlock) → block_at s a ≡ Some stored → block_of stored ≡ block

-- what is present afterwards was present before
abbrev pub Lessens : Store → Store → Type 0
Lessens s t = (a : Address) (stored : StoredBlock) → block_at t a ≡ Some stored → block_at s a ≡ Some stored

-- but for one address
abbrev pub LessensBut : Store → Store → Address → Type 0
LessensBut s t but = (a : Address) (stored : StoredBlock) → block_at t a ≡ Some stored → (block_at s a ≡ Some stored) ⊎ (a ≡ but)

-- a handle was stale: shard 0 has left the epoch since which it may be used
pub record IsTooOld (s : Store) (since : ℕ) (told : Reply) : Type 0 where
  pub stale : IsStale told
  pub risen : since + 1 ≤ slice_index s.epochs 0

-- a write is done, or refused
pub data WritesSo (limits : Limits) (s t : Store) (since next : ℕ) (es : List (ℕ × Held)) (a : Address) (block : Block) (told : Reply) : Type 0 where
  wrote : (epoch : ℕ) → (told ≡ reply.New next epoch) ⊎ (told ≡ reply.Dup next epoch) → HasHands t since (next + 1) (es ++ (next, record { address = a; epoch = epoch }) ∷ []) → HasOnly t a block → LessensBut s t a → WritesSo limits s t since next es a block told
  unwritten : IsTooOld t since told ⊎ ((told ≡ reply.Collision) ⊎ (told ≡ reply.ShardFull limits.blocks)) → HasHands t since next es → Lessens s t → WritesSo limits s t since next es a block told

-- a root is put, or refused
pub data RootsSo (limits : Limits) (s t : Store) (since next : ℕ) (es : List (ℕ × Held)) (key : List ℕ) (held : Held) (told : Reply) : Type 0 where
  rooted : told ≡ reply.Ok → (root : Root) → retained_at t key ≡ Some root → root.address ≡ held.address → HasHands t since next es → Lessens s t → RootsSo limits s t since next es key held told
  unrooted : IsTooOld t since told ⊎ ((told ≡ reply.KeyTaken key) ⊎ (told ≡ reply.RootsFull limits.roots)) → HasHands t since next es → Lessens s t → RootsSo limits s t since next es key held told

-- what any operation of a copy leaves that gives no handle: these are held
pub record KeepsHands (s t : Store) (since next : ℕ) (es : List (ℕ × Held)) : Type 0 where
  pub hands : HasHands t since next es
  pub less : Lessens s t
