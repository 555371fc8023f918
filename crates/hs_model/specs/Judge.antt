-- What an operation is answered, and what it leaves.
use Rattle.std.specs.Prelude.{ℕ, ◌+◌, Bool, true, false, List, [], ◌∷◌, length, Option, Some, None, is_some, is_none, unwrap_or, slice_index, map, count_by, replicate}
use Rattle.std.specs.BTreeMap.{insert_entry, is_at}
use Rattle.std.specs.List.{range_with_len}
use Rattle.std.specs.Map.{remove_entry}
use Rattle.std.specs.Option.{option_map}
use Rattle.std.specs.Ordering.{nat_cmp}
use Rattle.hs_limits.specs.declared.address.Address.{Address}
use Rattle.hs_limits.specs.declared.address.Held.{Held}
use Rattle.hs_limits.specs.declared.limits.Limits.{Limits}
use Rattle.hs_limits.specs.Block.{Block}
use Rattle.hs_model.specs.declared.op.Op.{Op}
use Rattle.hs_model.specs.declared.op.Op.TheVariants as op
use Rattle.hs_model.specs.declared.op.Asked.{Asked}
use Rattle.hs_model.specs.declared.op.Asked.TheVariants as asked
use Rattle.hs_model.specs.declared.reply.Reply.{Reply}
use Rattle.hs_model.specs.declared.reply.Reply.TheVariants as reply
use Rattle.hs_model.specs.declared.deed.Deed.{Deed}
use Rattle.hs_model.specs.declared.deed.Deed.TheVariants as deed
use Rattle.hs_model.specs.declared.store.StoredBlock.{StoredBlock}
use Rattle.hs_model.specs.Inner.{enter}
use Rattle.hs_model.specs.Reach.{pointers_of}
use Rattle.hs_model.specs.Refusals.{first, no_session, session_taken, sessions_full, no_handle, handles_full, stale, too_long, too_many, collision, shard_full, key_taken, no_key, roots_full, running, epoch_end}
use Rattle.hs_model.specs.Store.{Store, Root, Session, text_cmp, new_session, block_at, session_at, held_at, epoch_at, is_retained, retained_at, root_epoch, place_root, without_first, with_sessions, put_session, helds_of, hold_all, with_block, with_roots, next_of}

-- what was answered, what was done, and the store afterwards
pub record Judged : Type 0 where
  pub reply : Reply
  pub deed : Deed
  pub store : Store

-- ---- what an operation speaks of

-- the zero address in epoch 0 stands for what is not held
abbrev pub nothing : Held
nothing = record { address = record { 0 = replicate 32 0 }; epoch = 0 }

-- what a handle stands for
abbrev pub held_or : Store → List ℕ → ℕ → Held
held_or s name handle = unwrap_or (held_at s name handle) nothing

-- the address that a handle stands for
abbrev pub address_of : Store → List ℕ → ℕ → Address
address_of s name handle = (held_or s name handle).address

-- the block that a write asks for: its handles stand for the pointers
abbrev pub written : Store → List ℕ → List ℕ → List ℕ → Block
written s name payload handles = record { pointers = map (λ handle. address_of s name handle) handles; bytes = payload }

-- the address that a write was given; where it was given none the write is refused before it is looked at
abbrev pub given_address : Option Address → Address
given_address address = unwrap_or address nothing.address

-- the pointers of the block that a read asks for
abbrev pub pointers_at : Store → Address → List Address
pointers_at s a = pointers_of (block_at s a)

-- ---- refusals, in the order of each line

-- of a read through a handle of this address
abbrev pub read_refusals : Limits → Store → List ℕ → ℕ → Address → List (Option Reply)
read_refusals limits s name handle a =
    no_session s name ∷ no_handle s name (handle ∷ []) ∷ stale s name (epoch_at s a) (handle ∷ []) ∷ handles_full limits s name (length (pointers_at s a)) ∷ []

-- of a root
abbrev pub root_refusals : Limits → Store → List ℕ → List ℕ → ℕ → List (Option Reply)
root_refusals limits s name key handle =
    no_session s name ∷ no_handle s name (handle ∷ []) ∷ stale s name (root_epoch s key) (handle ∷ []) ∷ key_taken s key (address_of s name handle) ∷ roots_full limits s key ∷ []

-- of each operation
unfoldable pub refusals : Limits → Store → Op → List (Option Reply)
refusals limits s (op.Open name) = session_taken s name ∷ sessions_full limits s ∷ []
refusals limits s (op.Close name) = no_session s name ∷ []
refusals limits s (op.Write name payload handles address) =
    let a : Address = given_address address in
    let block : Block = written s name payload handles in
    no_session s name ∷ too_long payload ∷ too_many handles ∷ no_handle s name handles ∷ handles_full limits s name 1 ∷ stale s name (epoch_at s a) handles ∷ collision s a block ∷ shard_full limits s a ∷ []
refusals limits s (op.Read name handle) = read_refusals limits s name handle (address_of s name handle)
refusals limits s (op.Look name key) = no_session s name ∷ handles_full limits s name 1 ∷ no_key s key ∷ []
refusals limits s (op.Root name key handle) = root_refusals limits s name key handle
refusals limits s (op.Drop key) = no_key s key ∷ []
refusals limits s (op.Forget name handle) = no_session s name ∷ no_handle s name (handle ∷ []) ∷ []
refusals limits s (op.Name name handle) = no_session s name ∷ no_handle s name (handle ∷ []) ∷ []
refusals limits s op.Delete = running s ∷ epoch_end limits s ∷ []
refusals limits s op.Stat = []

-- ---- deeds

-- an operation as it is told where it was refused: with the number of a write's bytes in their place
abbrev pub asked_of : Op → Asked
asked_of (op.Open name) = asked.Open name
asked_of (op.Close name) = asked.Close name
asked_of (op.Write name payload handles address) = asked.Write name (length payload) handles address
asked_of (op.Read name handle) = asked.Read name handle
asked_of (op.Look name key) = asked.Look name key
asked_of (op.Root name key handle) = asked.Root name key handle
asked_of (op.Drop key) = asked.Drop key
asked_of (op.Forget name handle) = asked.Forget name handle
asked_of (op.Name name handle) = asked.Name name handle
asked_of op.Delete = asked.Delete
asked_of op.Stat = asked.Stat

-- a refusal leaves the store
abbrev pub refused : Op → Store → Reply → Judged
refused o s refusal = record { reply = refusal; deed = deed.Refused (asked_of o); store = s }

-- ---- what is not refused

-- a new session
abbrev pub opened : Store → List ℕ → Judged
opened s name = record { reply = reply.Ok; deed = deed.Opened name; store = with_sessions s (insert_entry text_cmp s.sessions name new_session) }

-- the session and what it held are gone
abbrev pub closed : Store → List ℕ → Judged
closed s name = record { reply = reply.Ok; deed = deed.Closed name; store = with_sessions s (remove_entry (is_at (text_cmp name)) s.sessions) }

-- a write answers New where its block was absent and Dup where it was present, with the next handle and the shard's epoch
abbrev pub written_reply : Bool → ℕ → ℕ → Reply
written_reply true handle epoch = reply.Dup handle epoch
written_reply false handle epoch = reply.New handle epoch

abbrev pub written_deed : Bool → List ℕ → Address → List Address → ℕ → Deed
written_deed true name a pointers handle = deed.Marked name a handle
written_deed false name a pointers handle = deed.Wrote name a pointers handle

-- the block is there afterwards, given in its shard's epoch, and the session holds it in that epoch
abbrev pub wrote : Store → List ℕ → Address → Block → Judged
wrote s name a block =
    let present : Bool = is_some (block_at s a) in
    let handle : ℕ = next_of (session_at s name) in
    let epoch : ℕ = epoch_at s a in
    record {
      reply = written_reply present handle epoch;
      deed = written_deed present name a block.pointers handle;
      store = hold_all (with_block s a block) name (record { address = a; epoch = epoch } ∷ []);
    }

-- the bytes of a block that is present, and none of one that is not
abbrev pub bytes_of : Option StoredBlock → List ℕ
bytes_of None = []
bytes_of (Some stored) = stored.bytes

-- the bytes are told, and the session holds each pointer in order in the epoch of the handle that was read through
abbrev pub read : Store → List ℕ → Held → Judged
read s name held =
    let pointers : List Address = pointers_at s held.address in
    let handles : List ℕ = range_with_len (next_of (session_at s name)) (length pointers) in
    record {
      reply = reply.Bytes (bytes_of (block_at s held.address)) handles;
      deed = deed.ReadBlock name held.address held.epoch handles;
      store = hold_all s name (helds_of pointers held.epoch);
    }

-- the address of a retained root, and the zero address where there is none
abbrev pub kept_address : Option Root → Address
kept_address None = nothing.address
kept_address (Some root) = root.address

-- the session holds the address of the root in the epoch of the root's shard
abbrev pub looked : Store → List ℕ → List ℕ → Judged
looked s name key =
    let held : Held = record { address = kept_address (retained_at s key); epoch = root_epoch s key } in
    let handle : ℕ = next_of (session_at s name) in
    record { reply = reply.Held handle held.epoch; deed = deed.Looked name key handle; store = hold_all s name (held ∷ []) }

-- a root that is retained already stays as it is
abbrev pub roots_with : Option Root → List Root → Root → List Root
roots_with (Some retained) roots root = roots
roots_with None roots root = place_root root roots

-- the key retains the address
abbrev pub rooted : Store → List ℕ → Address → Judged
rooted s key a = record {
  reply = reply.Ok;
  deed = deed.Rooted key a;
  store = with_roots s (roots_with (retained_at s key) s.roots (record { key = key; address = a; dropped = None }));
}

-- the retained root of a key becomes one that was dropped in this epoch
abbrev pub drop_root : Option Root → List Root → List ℕ → ℕ → List Root
drop_root None roots key epoch = roots
drop_root (Some root) roots key epoch = place_root (record root { dropped = Some epoch }) (without_first (is_retained key) roots)

abbrev pub dropped : Store → List ℕ → Judged
dropped s key = record { reply = reply.Ok; deed = deed.Dropped key; store = with_roots s (drop_root (retained_at s key) s.roots key (root_epoch s key)) }

-- the session without a handle
abbrev pub forgetting : ℕ → Session → Session
forgetting handle session = record session { handles = remove_entry (is_at (nat_cmp handle)) session.handles }

abbrev pub forgot : Store → List ℕ → ℕ → Judged
forgot s name handle = record { reply = reply.Ok; deed = deed.Forgot name handle; store = put_session s name (option_map (forgetting handle) (session_at s name)) }

-- the address is told, and nothing changes
abbrev pub named : Store → Address → Judged
named s a = record { reply = reply.Name a; deed = deed.Nothing; store = s }

-- the store is counted, and nothing changes
abbrev pub counted : Store → Judged
counted s = record {
  reply = reply.Stat (length s.blocks) (count_by (λ root. is_none root.dropped) s.roots) (length s.sessions) s.epochs s.swept;
  deed = deed.Nothing;
  store = s;
}

-- an accepted deletion is the enter of shard 0
abbrev pub deleted : Store → Judged
deleted s = record { reply = reply.Run (slice_index s.epochs 0 + 1); deed = deed.Entered 0; store = enter s 0 }

-- what each operation does where it is not refused
unfoldable pub granted : Store → Op → Judged
granted s (op.Open name) = opened s name
granted s (op.Close name) = closed s name
granted s (op.Write name payload handles address) = wrote s name (given_address address) (written s name payload handles)
granted s (op.Read name handle) = read s name (held_or s name handle)
granted s (op.Look name key) = looked s name key
granted s (op.Root name key handle) = rooted s key (address_of s name handle)
granted s (op.Drop key) = dropped s key
granted s (op.Forget name handle) = forgot s name handle
granted s (op.Name name handle) = named s (address_of s name handle)
granted s op.Delete = deleted s
granted s op.Stat = counted s

-- the first refusal that holds is the answer, and else what the operation does
abbrev pub judged : Store → Op → Option Reply → Judged
judged s o (Some refusal) = refused o s refusal
judged s o None = granted s o

unfoldable pub judge : Limits → Store → Op → Judged
judge limits s o = judged s o (first (refusals limits s o))
