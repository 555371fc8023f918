-- The plain store: a map of blocks, what was given when, the roots, the epochs, and what each session holds.
-- Each list is in ascending order and, but for the roots, without a repeated key.
use Rattle.std.specs.Prelude.{ℕ, ◌+◌, Bool, ◌==◌, ◌&&◌, if◌then◌else◌, List, [], ◌∷◌, length, Option, Some, None, is_none, slice_index, find, count_by, bytes_eq, map, replicate}
use Rattle.std.specs.declared.cmp.Ordering.{Ordering}
use Rattle.std.specs.declared.cmp.Ordering.TheVariants.{Less, Equal, Greater}
use Rattle.std.specs.Option.{option_map}
use Rattle.std.specs.Ordering.{nat_cmp, ordering_then, is_gt}
use Rattle.std.specs.Cmp.Lexicographic.{slice_cmp}
use Rattle.std.specs.BTreeMap.{is_at, insert_entry}
use Rattle.std.specs.Map.{lookup, set_value}
use Rattle.hs_limits.specs.declared.address.Address.{Address}
use Rattle.hs_limits.specs.declared.address.Held.{Held}
use Rattle.hs_limits.specs.Block.{Block}
use Rattle.hs_limits.specs.Shape.{shard_of, shard_of_key}
use Rattle.hs_model.specs.declared.store.StoredBlock.{StoredBlock}

-- a retention root: its key, the address that it keeps, and the epoch in which it was dropped, if it was
pub record Root : Type 0 where
  pub key : List ℕ
  pub address : Address
  pub dropped : Option ℕ

-- an open session: its next handle number, and what it holds by number
pub record Session : Type 0 where
  pub next : ℕ
  pub handles : List (ℕ × Held)

-- blocks: the present blocks by address; given: the greatest epoch in which a write gave a present address;
-- epochs, swept: one number for each shard; sessions: the open ones by name
pub record Store : Type 0 where
  pub blocks : List (Address × StoredBlock)
  pub given : List (Address × ℕ)
  pub roots : List Root
  pub epochs : List ℕ
  pub swept : List ℕ
  pub sessions : List (List ℕ × Session)

-- names and keys are in the order of their bytes
abbrev pub text_cmp : List ℕ → List ℕ → Ordering
text_cmp a b = slice_cmp nat_cmp a b

-- addresses are too
abbrev pub address_cmp : Address → Address → Ordering
address_cmp a b = slice_cmp nat_cmp a.0 b.0

-- a store of this many shards with nothing in it
abbrev pub empty_store : ℕ → Store
empty_store shards = record {
  blocks = [];
  given = [];
  roots = [];
  epochs = replicate shards 1;
  swept = replicate shards 1;
  sessions = [];
}

-- a new session holds nothing
abbrev pub new_session : Session
new_session = record { next = 0; handles = [] }

-- ---- what is looked up

-- the present block of an address
abbrev pub block_at : Store → Address → Option StoredBlock
block_at s a = lookup (is_at (address_cmp a)) s.blocks

-- the open session of a name
abbrev pub session_at : Store → List ℕ → Option Session
session_at s name = lookup (is_at (text_cmp name)) s.sessions

-- what a handle of a session stands for
abbrev pub held_in : Option Session → ℕ → Option Held
held_in None handle = None
held_in (Some session) handle = lookup (is_at (nat_cmp handle)) session.handles

abbrev pub held_at : Store → List ℕ → ℕ → Option Held
held_at s name handle = held_in (session_at s name) handle

-- the shard of an address, and its epoch
abbrev pub shard_at : Store → Address → ℕ
shard_at s a = shard_of (length s.epochs) a

abbrev pub epoch_at : Store → Address → ℕ
epoch_at s a = slice_index s.epochs (shard_at s a)

-- the bytes and pointers of a stored block
abbrev pub block_of : StoredBlock → Block
block_of stored = record { pointers = stored.pointers; bytes = stored.bytes }

-- how many blocks are present in a shard
abbrev pub blocks_in : Store → ℕ → ℕ
blocks_in s shard = count_by (λ e. shard_at s e.0 == shard) s.blocks

-- ---- roots

-- whether a root is retained under a key
abbrev pub is_retained : List ℕ → Root → Bool
is_retained key root = is_none root.dropped && bytes_eq root.key key

-- the root that is retained under a key
abbrev pub retained_at : Store → List ℕ → Option Root
retained_at s key = find (is_retained key) s.roots

-- how many roots are retained in a shard
abbrev pub roots_in : Store → ℕ → ℕ
roots_in s shard = count_by (λ root. is_none root.dropped && shard_of_key (length s.epochs) root.key == shard) s.roots

-- the epoch of a root's shard
abbrev pub root_epoch : Store → List ℕ → ℕ
root_epoch s key = slice_index s.epochs (shard_of_key (length s.epochs) key)

-- a root that is not dropped comes after those that are
abbrev pub dropped_cmp : Option ℕ → Option ℕ → Ordering
dropped_cmp None None = Equal
dropped_cmp None (Some d) = Greater
dropped_cmp (Some d) None = Less
dropped_cmp (Some d) (Some e) = nat_cmp d e

-- roots are in the order of key, epoch of the drop, and address
abbrev pub root_cmp : Root → Root → Ordering
root_cmp a b = ordering_then (text_cmp a.key b.key) (ordering_then (dropped_cmp a.dropped b.dropped) (address_cmp a.address b.address))

-- the roots with one more, at its place
abbrev pub place_root : Root → List Root → List Root
place_root root [] = root ∷ []
place_root root (first ∷ rest) = if is_gt (root_cmp root first) then first ∷ place_root root rest else root ∷ first ∷ rest

-- the roots without the first that passes a test
abbrev pub without_first : (Root → Bool) → List Root → List Root
without_first test [] = []
without_first test (first ∷ rest) = if test first then rest else first ∷ without_first test rest

-- ---- what is changed

-- the store with other sessions, and nothing else changed
abbrev pub with_sessions : Store → List (List ℕ × Session) → Store
with_sessions s sessions = record s { sessions = sessions }

-- the session with one more handle, which has the next number
abbrev pub holding : Held → Session → Session
holding held session = record { next = session.next + 1; handles = insert_entry nat_cmp session.handles session.next held }

-- the session with more handles, one after another
abbrev pub holding_all : List Held → Session → Session
holding_all [] session = session
holding_all (held ∷ rest) session = holding_all rest (holding held session)

-- some addresses as they are held, all given in one epoch
unfoldable pub helds_of : List Address → ℕ → List Held
helds_of addresses epoch = map (λ address. record { address = address; epoch = epoch }) addresses

-- the store with this in the place of an open session
abbrev pub put_session : Store → List ℕ → Option Session → Store
put_session s name None = s
put_session s name (Some session) = with_sessions s (set_value (is_at (text_cmp name)) s.sessions session)

-- the next handle number of a session
abbrev pub next_of : Option Session → ℕ
next_of None = 0
next_of (Some session) = session.next

-- the store where a session holds these too, one after another
abbrev pub hold_all : Store → List ℕ → List Held → Store
hold_all s name helds = put_session s name (option_map (holding_all helds) (session_at s name))

-- the present blocks with one that is there already, or else is born in this epoch
abbrev pub blocks_with : Option StoredBlock → List (Address × StoredBlock) → Address → Block → ℕ → List (Address × StoredBlock)
blocks_with (Some stored) blocks a block epoch = blocks
blocks_with None blocks a block epoch = insert_entry address_cmp blocks a (record { pointers = block.pointers; bytes = block.bytes; born = epoch })

-- the store with a block, which a write gives in its shard's epoch
abbrev pub with_block : Store → Address → Block → Store
with_block s a block = record s {
  blocks = blocks_with (block_at s a) s.blocks a block (epoch_at s a);
  given = insert_entry address_cmp s.given a (epoch_at s a);
}

-- the store with other roots
abbrev pub with_roots : Store → List Root → Store
with_roots s roots = record s { roots = roots }

-- the store as it is after a stop: no session, and nothing held
abbrev pub reborn : Store → Store
reborn s = with_sessions s []
