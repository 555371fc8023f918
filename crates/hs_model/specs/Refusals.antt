-- Every refusal, where it holds. An operation is refused for the first that holds, in the order of its line.
use Rattle.std.specs.Prelude.{ℕ, ◌+◌, Bool, true, false, not, ◌&&◌, List, [], ◌∷◌, length, Option, Some, None, is_none, is_some, bytes_eq, slice_index, nat_le, nat_lt, map}
use Rattle.std.specs.Cmp.Lexicographic.{pointwise}
use Rattle.hs_limits.specs.declared.address.Address.{Address}
use Rattle.hs_limits.specs.declared.address.Held.{Held}
use Rattle.hs_limits.specs.declared.limits.Limits.{Limits}
use Rattle.hs_limits.specs.declared.spelling.TheConstants.{MOST_POINTERS, MOST_BYTES}
use Rattle.hs_limits.specs.Block.{Block}
use Rattle.hs_limits.specs.Shape.{shard_of_key}
use Rattle.hs_model.specs.declared.reply.Reply.{Reply}
use Rattle.hs_model.specs.declared.reply.Reply.TheVariants as reply
use Rattle.hs_model.specs.declared.store.StoredBlock.{StoredBlock}
use Rattle.hs_model.specs.Store.{Store, Root, Session, block_at, session_at, held_in, shard_at, blocks_in, retained_at, roots_in}

-- a refusal, where the fact that calls for it holds
abbrev pub refused_when : Bool → Reply → Option Reply
refused_when true refusal = Some refusal
refused_when false refusal = None

-- the first of some refusals that holds
abbrev pub first : List (Option Reply) → Option Reply
first [] = None
first (Some refusal ∷ rest) = Some refusal
first (None ∷ rest) = first rest

-- ---- sessions

-- the session is not open
abbrev pub no_session : Store → List ℕ → Option Reply
no_session s name = refused_when (is_none (session_at s name)) (reply.NoSession name)

-- the session is open
abbrev pub session_taken : Store → List ℕ → Option Reply
session_taken s name = refused_when (is_some (session_at s name)) (reply.SessionTaken name)

-- as many sessions as the limit are open
abbrev pub sessions_full : Limits → Store → Option Reply
sessions_full limits s = refused_when (nat_le limits.sessions (length s.sessions)) (reply.SessionsFull limits.sessions)

-- ---- handles

-- the session does not hold a handle
abbrev pub no_such_handle : Option Session → ℕ → Option Reply
no_such_handle session handle = refused_when (is_none (held_in session handle)) (reply.NoHandle handle)

-- the first handle that the session does not hold
unfoldable pub no_handle_in : Option Session → List ℕ → Option Reply
no_handle_in session handles = first (map (λ handle. no_such_handle session handle) handles)

abbrev pub no_handle : Store → List ℕ → List ℕ → Option Reply
no_handle s name handles = no_handle_in (session_at s name) handles

-- how many handles a session holds
abbrev pub handle_count : Option Session → ℕ
handle_count None = 0
handle_count (Some session) = length session.handles

-- so many new handles would make more than the limit
abbrev pub handles_full_in : Limits → Option Session → ℕ → Option Reply
handles_full_in limits session more = refused_when (nat_lt limits.handles (handle_count session + more)) (reply.HandlesFull limits.handles)

abbrev pub handles_full : Limits → Store → List ℕ → ℕ → Option Reply
handles_full limits s name more = handles_full_in limits (session_at s name) more

-- what a handle stands for was given more than one epoch before this one
abbrev pub stale_handle : ℕ → ℕ → Option Held → Option Reply
stale_handle now handle None = None
stale_handle now handle (Some held) = refused_when (nat_lt (held.epoch + 1) now) (reply.Stale handle held.epoch now)

-- the first handle that is stale in an epoch
unfoldable pub stale_in : Option Session → ℕ → List ℕ → Option Reply
stale_in session now handles = first (map (λ handle. stale_handle now handle (held_in session handle)) handles)

abbrev pub stale : Store → List ℕ → ℕ → List ℕ → Option Reply
stale s name now handles = stale_in (session_at s name) now handles

-- ---- blocks

-- more data bytes than a block takes
abbrev pub too_long : List ℕ → Option Reply
too_long payload = refused_when (nat_lt MOST_BYTES (length payload)) (reply.TooLong (length payload))

-- more pointers than a block takes
abbrev pub too_many : List ℕ → Option Reply
too_many handles = refused_when (nat_lt MOST_POINTERS (length handles)) (reply.TooMany (length handles))

-- whether a stored block is this one
abbrev pub is_block : StoredBlock → Block → Bool
is_block stored block = pointwise (λ p q. bytes_eq p.0 q.0) stored.pointers block.pointers && bytes_eq stored.bytes block.bytes

-- whether another block is there
abbrev pub is_other : Option StoredBlock → Block → Bool
is_other None block = false
is_other (Some stored) block = not (is_block stored block)

-- a present block has the address and other bytes
abbrev pub collision : Store → Address → Block → Option Reply
collision s a block = refused_when (is_other (block_at s a) block) reply.Collision

-- the block is absent, and as many blocks as the limit are present in its shard
abbrev pub shard_full : Limits → Store → Address → Option Reply
shard_full limits s a = refused_when (is_none (block_at s a) && nat_le limits.blocks (blocks_in s (shard_at s a))) (reply.ShardFull limits.blocks)

-- ---- roots

-- whether a root keeps another address
abbrev pub keeps_other : Option Root → Address → Bool
keeps_other None a = false
keeps_other (Some root) a = not (bytes_eq root.address.0 a.0)

-- the key is retained with another address
abbrev pub key_taken : Store → List ℕ → Address → Option Reply
key_taken s key a = refused_when (keeps_other (retained_at s key) a) (reply.KeyTaken key)

-- the key is not retained
abbrev pub no_key : Store → List ℕ → Option Reply
no_key s key = refused_when (is_none (retained_at s key)) (reply.NoKey key)

-- the key is not retained, and as many roots as the limit are retained in its shard
abbrev pub roots_full : Limits → Store → List ℕ → Option Reply
roots_full limits s key = refused_when (is_none (retained_at s key) && nat_le limits.roots (roots_in s (shard_of_key (length s.epochs) key))) (reply.RootsFull limits.roots)

-- ---- deletion runs

-- shard 0 has not swept its epoch
abbrev pub running : Store → Option Reply
running s = refused_when (nat_lt (slice_index s.swept 0) (slice_index s.epochs 0)) (reply.Running (slice_index s.epochs 0))

-- the epoch of shard 0 is the limit
abbrev pub epoch_end : Limits → Store → Option Reply
epoch_end limits s = refused_when (nat_le limits.epochs (slice_index s.epochs 0)) (reply.EpochEnd limits.epochs)
