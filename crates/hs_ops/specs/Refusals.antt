-- Which refusals hold in a view, in the plain store's words. An operation is refused for the first, in the order of its line.
use Rattle.std.specs.Prelude.{ℕ, Bool, false, not, ◌&&◌, List, [], ◌∷◌, Option, bytes_eq, is_none, is_some, length, nat_le, nat_lt, slice_index}
use Rattle.std.specs.Option.{option_map, option_map_or}
use Rattle.hs_limits.specs.declared.address.Address.{Address}
use Rattle.hs_model.specs.Refusals.{first, handles_full_in, no_handle_in, refused_when, stale_in, too_long, too_many}
use Rattle.hs_model.specs.declared.op.Op.{Op}
use Rattle.hs_model.specs.declared.op.Op.TheVariants as op
use Rattle.hs_model.specs.declared.reply.Reply.{Reply}
use Rattle.hs_model.specs.declared.reply.Reply.TheVariants as reply
use Rattle.hs_ops.specs.Views.{OpView, kept_in, now_in, open_in}
use Rattle.hs_roots.specs.declared.root.RootRecord.{RootRecord}
use Rattle.hs_tokens.specs.Seats.{found}

-- ---- sessions

-- the session is not open
abbrev pub not_open : OpView → List ℕ → Option Reply
not_open v name = refused_when (is_none (open_in v name)) (reply.NoSession name)

-- the session is open
abbrev pub open_already : OpView → List ℕ → Option Reply
open_already v name = refused_when (is_some (open_in v name)) (reply.SessionTaken name)

-- as many sessions as the limit are open
abbrev pub all_open : OpView → Option Reply
all_open v = refused_when (nat_le v.limits.sessions (length v.seats)) (reply.SessionsFull v.limits.sessions)

-- the session has an operation without an answer
abbrev pub is_busy : OpView → Option Reply
is_busy v = option_map (λ line. reply.Busy line) v.busy

-- ---- handles

-- the first handle that the session does not hold
abbrev pub not_held : OpView → List ℕ → List ℕ → Option Reply
not_held v name handles = no_handle_in (open_in v name) handles

-- so many new handles would make more than the limit
abbrev pub no_more_handles : OpView → List ℕ → ℕ → Option Reply
no_more_handles v name more = handles_full_in v.limits (open_in v name) more

-- the first handle that may not be used any more in the epoch of the shard that judges
abbrev pub outdated : OpView → List ℕ → List ℕ → Option Reply
outdated v name handles = stale_in (open_in v name) (now_in v) handles

-- ---- blocks and roots

-- the block is absent, and as many blocks as the limit are present in its shard
abbrev pub no_room_for_block : OpView → Option Reply
no_room_for_block v = refused_when (is_none v.present && not v.room) (reply.ShardFull v.limits.blocks)

-- the key is not retained
abbrev pub not_kept : OpView → List ℕ → Option Reply
not_kept v key = refused_when (is_none (kept_in v key)) (reply.NoKey key)

-- whether a root keeps another address
abbrev pub differs : Address → Option RootRecord → Bool
differs address root = option_map_or (λ r. not (bytes_eq r.address.0 address.0)) root false

-- the key is retained with another address
abbrev pub kept_otherwise : OpView → List ℕ → Address → Option Reply
kept_otherwise v key address = refused_when (differs address (kept_in v key)) (reply.KeyTaken key)

-- the key is not retained, and as many roots as the limit are retained in its shard
abbrev pub no_room_for_root : OpView → List ℕ → Option Reply
no_room_for_root v key = refused_when (is_none (kept_in v key) && not v.room) (reply.RootsFull v.limits.roots)

-- ---- deletion runs

-- shard 0 has not swept its epoch
abbrev pub is_running : OpView → Option Reply
is_running v = refused_when (nat_lt (slice_index v.swept 0) (slice_index v.epochs 0)) (reply.Running (slice_index v.epochs 0))

-- the epoch of shard 0 is the limit
abbrev pub epochs_end : OpView → Option Reply
epochs_end v = refused_when (nat_le v.limits.epochs (slice_index v.epochs 0)) (reply.EpochEnd v.limits.epochs)

-- ---- in the order of each line; that a present block differs from a write's is found when its bytes are compared

unfoldable pub refusals_of : OpView → Op → List (Option Reply)
refusals_of v (op.Open name) = open_already v name ∷ all_open v ∷ []
refusals_of v (op.Close name) = not_open v name ∷ is_busy v ∷ []
refusals_of v (op.Write name payload handles address) =
    not_open v name ∷ is_busy v ∷ too_long payload ∷ too_many handles ∷ not_held v name handles ∷ no_more_handles v name 1 ∷ outdated v name handles ∷ no_room_for_block v ∷ []
refusals_of v (op.Read name handle) =
    not_open v name ∷ is_busy v ∷ not_held v name (handle ∷ []) ∷ outdated v name (handle ∷ []) ∷ no_more_handles v name v.pointers ∷ []
refusals_of v (op.Look name key) = not_open v name ∷ is_busy v ∷ no_more_handles v name 1 ∷ not_kept v key ∷ []
refusals_of v (op.Root name key handle) =
    not_open v name ∷ is_busy v ∷ not_held v name (handle ∷ []) ∷ outdated v name (handle ∷ []) ∷ kept_otherwise v key (found v.seats name handle).address ∷ no_room_for_root v key ∷ []
refusals_of v (op.Drop key) = not_kept v key ∷ []
refusals_of v (op.Forget name handle) = not_open v name ∷ is_busy v ∷ not_held v name (handle ∷ []) ∷ []
refusals_of v (op.Name name handle) = not_open v name ∷ is_busy v ∷ not_held v name (handle ∷ []) ∷ []
refusals_of v op.Delete = is_running v ∷ epochs_end v ∷ []
refusals_of v op.Stat = []

-- the first that holds
abbrev pub refusal_of : OpView → Op → Option Reply
refusal_of v o = first (refusals_of v o)
