-- What an operation sees of the store.
use Rattle.std.specs.Prelude.{ℕ, Bool, List, Option, slice_index}
use Rattle.std.specs.Option.{option_map}
use Rattle.hs_limits.specs.declared.limits.Limits.{Limits}
use Rattle.hs_model.specs.Store.{Session}
use Rattle.hs_roots.specs.Roots.{retained_of}
use Rattle.hs_roots.specs.declared.root.RootRecord.{RootRecord}
use Rattle.hs_tokens.specs.Seats.{Seat, Seats, seat_of}

-- what has taken effect, as an operation sees it. shard: the one that judges it, with its roots; retained, blocks: of all shards;
-- present, pointers: the number of the entry that stored the block which it writes or reads, and how many pointers that block has;
-- room: its shard is below the limit of blocks, or of roots; pending: an entry of the lead's list has its address or takes its room;
-- viewed: the View of the current view has taken effect; busy: the line of its session's operation that has no answer
pub record OpView : Type 0 where
  pub limits : Limits
  pub seats : Seats
  pub roots : List RootRecord
  pub retained : ℕ
  pub blocks : ℕ
  pub epochs : List ℕ
  pub swept : List ℕ
  pub shard : ℕ
  pub present : Option ℕ
  pub pointers : ℕ
  pub room : Bool
  pub pending : Bool
  pub viewed : Bool
  pub busy : Option ℕ

-- an open session in the plain store's words
abbrev pub as_session : Seat → Session
as_session seat = record { next = seat.next; handles = seat.handles }

abbrev pub open_in : OpView → List ℕ → Option Session
open_in v name = option_map as_session (seat_of name v.seats)

-- the epoch of the shard that judges
abbrev pub now_in : OpView → ℕ
now_in v = slice_index v.epochs v.shard

-- the root that is retained under a key
abbrev pub kept_in : OpView → List ℕ → Option RootRecord
kept_in v key = retained_of key v.roots
