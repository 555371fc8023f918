-- What is looked at where an entry of a journal is judged by its deed.
use Rattle.std.specs.Prelude.{◌≡◌, ◌≤◌, ℕ, Bool, false, ◌==◌, IsTrue, IsSome, List, Option, Some, None, ◌-◌, length, slice_get}
use Rattle.std.specs.List.{AllByRecursion, list_any}
use Rattle.std.specs.Option.{option_map, option_map_or}
use Rattle.hs_journal.specs.declared.entry.JournalEntry.{JournalEntry}
use Rattle.hs_journal.specs.Deeds.{as_deed}
use Rattle.hs_limits.specs.declared.address.Address.{Address}
use Rattle.hs_limits.specs.declared.address.Held.{Held}
use Rattle.hs_limits.specs.declared.limits.Limits.{Limits}
use Rattle.hs_limits.specs.declared.spelling.TheConstants.{MOST_POINTERS}
use Rattle.hs_limits.specs.Epoch.{IsFresh}
use Rattle.hs_model.specs.declared.deed.Deed.{Deed}
use Rattle.hs_model.specs.declared.deed.Deed.TheVariants as deed
use Rattle.hs_model.specs.declared.op.Op.{Op}
use Rattle.hs_model.specs.declared.op.Op.TheVariants as op
use Rattle.hs_model.specs.declared.reply.Reply.{Reply}
use Rattle.hs_model.specs.declared.reply.Reply.TheVariants as reply
use Rattle.hs_model.specs.Deeds.{DeedEntry, HoldsFresh, IsDeedOf, deed_store}
use Rattle.hs_model.specs.Judge.{judge, pointers_at}
use Rattle.hs_model.specs.Refusals.{handles_full, shard_full}
use Rattle.hs_model.specs.Store.{Store, block_at, epoch_at, held_at, next_of, session_at}

-- whether an entry is one by its deed and its reply, and what is left where it is
pub record Does (limits : Limits) (s : Store) (before : List DeedEntry) (d : Deed) (told : Reply) (is : Bool) (left : Store) : Type 0 where
  pub found : IsTrue is → IsDeedOf limits s before d told
  pub only : IsDeedOf limits s before d told → IsTrue is
  pub leaves : IsTrue is → left ≡ deed_store s d

-- the operation that a deed tells whole
abbrev pub operation_of : Deed → Option Op
operation_of (deed.Opened name) = Some (op.Open name)
operation_of (deed.Closed name) = Some (op.Close name)
operation_of (deed.Wrote name a pointers handle) = None
operation_of (deed.Marked name a handle) = None
operation_of (deed.ReadBlock name a epoch handles) = None
operation_of (deed.Looked name key handle) = Some (op.Look name key)
operation_of (deed.Rooted key a) = None
operation_of (deed.Dropped key) = Some (op.Drop key)
operation_of (deed.Forgot name handle) = Some (op.Forget name handle)
operation_of (deed.Entered shard) = None
operation_of (deed.Swept shard) = None
operation_of (deed.Refused o) = None
operation_of deed.Nothing = None

-- an operation does a deed and is answered so
pub record IsJudged (limits : Limits) (s : Store) (o : Op) (d : Deed) (told : Reply) : Type 0 where
  pub done : (judge limits s o).deed ≡ d
  pub reply : (judge limits s o).reply ≡ told

-- a session that is open holds each of some addresses in an epoch that is fresh in another, and a handle is its next
pub record MayGive (s : Store) (name : List ℕ) (now : ℕ) (pointers : List Address) (handle : ℕ) : Type 0 where
  pub is_open : IsSome (session_at s name)
  pub held : AllByRecursion (HoldsFresh s name now) pointers
  pub next : handle ≡ next_of (session_at s name)

-- it may write an absent block that points to these
pub record MayTake (limits : Limits) (s : Store) (name : List ℕ) (a : Address) (pointers : List Address) (handle : ℕ) : Type 0 where
  pub gives : MayGive s name (epoch_at s a) pointers handle
  pub absent : block_at s a ≡ None
  pub few : length pointers ≤ MOST_POINTERS
  pub handles : handles_full limits s name 1 ≡ None
  pub room : shard_full limits s a ≡ None

-- a block is there, and it may be given
pub record MayMark (s : Store) (name : List ℕ) (a : Address) (handle : ℕ) : Type 0 where
  pub gives : MayGive s name (epoch_at s a) (pointers_at s a) handle
  pub present : IsSome (block_at s a)

-- a session holds this, which is fresh
pub record MayRead (s : Store) (name : List ℕ) (this : Held) : Type 0 where
  pub handle : ℕ
  pub held : held_at s name handle ≡ Some this
  pub fresh : IsFresh this.epoch (epoch_at s this.address)

-- a reply tells bytes with these handles
pub record HasHandles (told : Reply) (handles : List ℕ) : Type 0 where
  pub bytes : List ℕ
  pub reply : told ≡ reply.Bytes bytes handles

-- whether an entry of a journal answers a line
abbrev pub answers_line : ℕ → JournalEntry → Bool
answers_line line entry = option_map_or (λ n. n == line) (as_deed entry).line false

-- a reply tells that a session is busy with a line that has no entry among some
abbrev pub IsBusy : List JournalEntry → Reply → Type 0
IsBusy before (reply.Busy line) = list_any (λ entry. answers_line line entry) before ≡ false
IsBusy before other = ⊥

-- what the last of some entries tells
abbrev pub last_told : List JournalEntry → Option Reply
last_told before = option_map (λ entry. entry.reply) (slice_get before (length before - 1))
