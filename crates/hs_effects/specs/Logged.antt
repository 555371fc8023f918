-- Operations that wait for their entry, and the entries that they asked for.
use Rattle.std.specs.List.{list_all}
use Rattle.std.specs.Option.{option_map}
use Rattle.std.specs.Prelude.{◌≡◌, ◌⊎◌, ℕ, ◌+◌, ◌==◌, ◌≤◌, List, [], ◌∷◌, length, Option, Some, None, IsSome, is_none, is_some, true, slice_get, if◌then◌else◌}
pub use Rattle.hs_anatomy.specs.Once.{AreOnce}
use Rattle.hs_awaiting.specs.declared.wait.Wait.TheVariants as wait
use Rattle.hs_awaiting.specs.declared.waiting.Waiting.{Waiting}
use Rattle.hs_core_words.specs.declared.event.Event.{Event}
use Rattle.hs_core_words.specs.declared.event.Event.TheVariants as event
use Rattle.hs_core_words.specs.Looking.{front_of, group_of, operation_of, shape_of}
use Rattle.hs_core_words.specs.State.{Core}
use Rattle.hs_core_words.specs.Step.{step}
use Rattle.hs_effects.specs.Room.{HasRoom}
use Rattle.hs_entry.specs.declared.entry.Entry.{Entry}
use Rattle.hs_entry.specs.declared.entry.Entry.TheVariants as kind
use Rattle.hs_journal.specs.Order.{session_of}
use Rattle.hs_limits.specs.Block.{spell}
use Rattle.hs_limits.specs.declared.address.Address.{Address}
use Rattle.hs_limits.specs.declared.limits.Limits.{Limits}
use Rattle.hs_limits.specs.declared.spelling.TheConstants.{MOST_BYTES, MOST_POINTERS}
use Rattle.hs_model.specs.declared.op.Op.{Op}
use Rattle.hs_model.specs.declared.op.Op.TheVariants as op
use Rattle.hs_model.specs.declared.reply.Reply.TheVariants as reply
use Rattle.hs_model.specs.Judge.{given_address}
use Rattle.hs_model.specs.Refusals.{first, handles_full_in, no_handle_in, refused_when, too_long, too_many}
use Rattle.hs_model.specs.Store.{Session}
use Rattle.hs_ops.specs.Speaking.{asked_block, helds, judging_shard, least_epoch}
use Rattle.hs_ops.specs.Views.{as_session}
use Rattle.hs_tokens.specs.Seats.{Seats, found, held_at, seat_of}

-- ---- what an operation asks for

-- a write has a block: each of its handles is held, and the block is within its bounds
pub record HasBlock (seats : Seats) (session payload handles : List ℕ) : Type 0 where
  pub held : list_all (λ handle. is_some (held_at (seat_of session seats) handle)) handles ≡ true
  pub few : length handles ≤ MOST_POINTERS
  pub short : length payload ≤ MOST_BYTES

-- a write that has a block has its address: the name of the block's spelling
abbrev pub IsCalled : (List ℕ → Address) → Seats → Op → Type 0
IsCalled name seats (op.Write session payload handles address) =
    HasBlock seats session payload handles → address ≡ Some (name (spell (asked_block seats session payload handles)))
IsCalled name seats other = Unit {0}

-- the Block of a write, with its address, or the Mark of the block that is there
abbrev pub IsWriteEntry : (List ℕ → Address) → Seats → ℕ → Op → Entry → Type 0
IsWriteEntry name seats line (op.Write session payload handles address) entry =
    ((entry ≡ kind.Block line (least_epoch (helds seats session handles)) (spell (asked_block seats session payload handles)))
    × (address ≡ Some (name (spell (asked_block seats session payload handles)))))
    ⊎ ((number : ℕ) × (entry ≡ kind.Mark line (least_epoch (helds seats session handles)) number (given_address address)))
IsWriteEntry name seats line other entry = ⊥

-- an entry is what an operation asks for at these sessions
abbrev pub IsEntryOf : (List ℕ → Address) → Seats → ℕ → Op → Entry → Type 0
IsEntryOf name seats line (op.Write session payload handles address) entry = IsWriteEntry name seats line (op.Write session payload handles address) entry
IsEntryOf name seats line (op.Root session key handle) entry =
    entry ≡ kind.Root line (found seats session handle).epoch (found seats session handle).address key
IsEntryOf name seats line (op.Drop key) entry = entry ≡ kind.Drop line key
IsEntryOf name seats line op.Delete entry = (epoch : ℕ) × (entry ≡ kind.Enter line epoch)
IsEntryOf name seats line other entry = ⊥

-- an operation is not refused for its session, nor for what that holds; of one that puts no block and no root nothing is said
abbrev pub IsOwn : Limits → Seats → Op → Type 0
IsOwn limits seats (op.Write session payload handles address) =
    let open_one : Option Session = option_map as_session (seat_of session seats) in
    first (refused_when (is_none open_one) (reply.NoSession session) ∷ too_long payload ∷ too_many handles
    ∷ no_handle_in open_one handles ∷ handles_full_in limits open_one 1 ∷ []) ≡ None
IsOwn limits seats (op.Root session key handle) =
    let open_one : Option Session = option_map as_session (seat_of session seats) in
    first (refused_when (is_none open_one) (reply.NoSession session) ∷ no_handle_in open_one (handle ∷ []) ∷ []) ≡ None
IsOwn limits seats other = Unit {0}

-- the line of the operation that asked for an entry; lines are numbered from 1, and an Enter of line 0 is its shard's own
abbrev pub asked_by : Entry → Option ℕ
asked_by (kind.Block line least bytes) = Some line
asked_by (kind.Mark line least block address) = Some line
asked_by (kind.Root line held address key) = Some line
asked_by (kind.Drop line key) = Some line
asked_by (kind.Enter line epoch) = if line == 0 then None else Some line
asked_by other = None

-- ---- in the core

-- the operation of a line waits for the entry of this number in its shard's list, and asked for it
pub record HasAsked (name : List ℕ → Address) (core : Core) (shard number line : ℕ) (entry : Entry) : Type 0 where
  pub waiting : Waiting
  pub at : operation_of line core ≡ Some waiting
  pub waits : waiting.wait ≡ wait.Entry number
  pub judges : waiting.shard ≡ shard
  pub asks : IsEntryOf name core.sessions line waiting.operation.op entry
  pub own : IsOwn core.limits core.sessions waiting.operation.op

-- so it is with each entry that has not taken effect and that an operation asked for
abbrev pub AreAsked : (List ℕ → Address) → Core → Type 0
AreAsked name core =
    (shard place line : ℕ) (entry : Entry) → slice_get (group_of shard core).waiting place ≡ Some entry → asked_by entry ≡ Some line
    → HasAsked name core shard (front_of shard core + 1 + place) line entry

-- an operation without an answer is that of its line, which is not 0, of an open session, a write with the address of its block, and at the shard that judges it
pub record IsPending (name : List ℕ → Address) (core : Core) (line : ℕ) (w : Waiting) : Type 0 where
  pub of_line : w.operation.line ≡ line
  pub counted : 1 ≤ line
  pub opened : (session : List ℕ) → session_of (Some w.operation.op) ≡ Some session → IsSome (seat_of session core.sessions)
  pub called : IsCalled name core.sessions w.operation.op
  pub judges : w.shard ≡ judging_shard (shape_of core).shards core.sessions w.operation.op

-- operations without an answer, and entries that have not taken effect, as they stand between any two changes: no line has two, no session has two, each entry is what its operation waits for, and there is room for each
pub record IsOrderly (name : List ℕ → Address) (core : Core) : Type 0 where
  pub once : AreOnce core.operations
  pub pending : (line : ℕ) (w : Waiting) → operation_of line core ≡ Some w → IsPending name core line w
  pub alone : (l m : ℕ) (v w : Waiting) (session : List ℕ) → operation_of l core ≡ Some v → operation_of m core ≡ Some w
      → session_of (Some v.operation.op) ≡ Some session → session_of (Some w.operation.op) ≡ Some session → l ≡ m
  pub asked : AreAsked name core
  pub roomy : (shard : ℕ) → HasRoom core shard

-- a client's line is new, is not 0, and asks for a write with the address of its block
pub record IsNewLine (name : List ℕ → Address) (core : Core) (line : ℕ) (o : Op) : Type 0 where
  pub new : operation_of line core ≡ None
  pub counted : 1 ≤ line
  pub called : IsCalled name core.sessions o

-- so an event may begin that is a client's line; of the others nothing is asked
abbrev pub MayBegin : (List ℕ → Address) → Event → Core → Type 0
MayBegin name (event.Line line o) core = IsNewLine name core line o
MayBegin name other core = Unit {0}

-- some events, each at its moment, one after another
abbrev pub steps : Core → List (Event × ℕ) → Core
steps core [] = core
steps core (e ∷ es) = steps (step e.0 e.1 core) es

-- so each of some events, when it comes
abbrev pub MayBeginAll : (List ℕ → Address) → List (Event × ℕ) → Core → Type 0
MayBeginAll name [] core = Unit {0}
MayBeginAll name (e ∷ es) core = MayBegin name e.0 core × MayBeginAll name es (step e.0 e.1 core)
