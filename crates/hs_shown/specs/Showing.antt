-- A view that shows a plain store to an operation.
use Rattle.std.specs.Prelude.{◌≡◌, ℕ, not, List, Option, Some, None, count_by, is_none, is_some, length, map, nat_le}
use Rattle.std.specs.Option.{option_map}
use Rattle.hs_limits.specs.Shape.{shard_of_key}
use Rattle.hs_limits.specs.declared.address.Address.{Address}
use Rattle.hs_limits.specs.declared.limits.Limits.{Limits}
use Rattle.hs_model.specs.Hollow.{looks_at}
use Rattle.hs_model.specs.Judge.{pointers_at}
use Rattle.hs_model.specs.Store.{Session, Store, block_at, blocks_in, retained_at, roots_in, shard_at}
use Rattle.hs_model.specs.declared.op.Op.{Op}
use Rattle.hs_model.specs.declared.op.Op.TheVariants as op
use Rattle.hs_model.specs.Op.{named_key}
use Rattle.hs_ops.specs.Speaking.{judging_shard}
use Rattle.hs_ops.specs.Views.{OpView, as_session, kept_in}
use Rattle.hs_tokens.specs.Seats.{Seats}

-- the open sessions in the plain store's words
abbrev pub as_sessions : Seats → List (List ℕ × Session)
as_sessions seats = map (λ e. (e.0, as_session e.1)) seats

-- the key under which it puts a root
abbrev pub rooted_key : Op → Option (List ℕ)
rooted_key (op.Root name key handle) = Some key
rooted_key other = None

-- it shows the sessions, epochs and counts of the store, the root of the operation's key, the block that the operation looks at, and the room
-- in their shard; and the session has no other operation
pub record Shows (limits : Limits) (s : Store) (o : Op) (v : OpView) : Type 0 where
  pub limited : v.limits ≡ limits
  pub sessions : s.sessions ≡ as_sessions v.seats
  pub epochs : v.epochs ≡ s.epochs
  pub swept : v.swept ≡ s.swept
  pub judging : v.shard ≡ judging_shard (length s.epochs) v.seats o
  pub blocks : v.blocks ≡ length s.blocks
  pub retained : v.retained ≡ count_by (λ root. is_none root.dropped) s.roots
  pub free : v.busy ≡ None
  pub kept : (key : List ℕ) → named_key o ≡ Some key
      → option_map (λ root. root.address) (kept_in v key) ≡ option_map (λ root. root.address) (retained_at s key)
  pub present : (a : Address) → looks_at s o ≡ Some a → is_some v.present ≡ is_some (block_at s a)
  pub pointers : (a : Address) → looks_at s o ≡ Some a → v.pointers ≡ length (pointers_at s a)
  pub room : (a : Address) → looks_at s o ≡ Some a → v.room ≡ not (nat_le limits.blocks (blocks_in s (shard_at s a)))
  pub root_room : (key : List ℕ) → rooted_key o ≡ Some key
      → v.room ≡ not (nat_le limits.roots (roots_in s (shard_of_key (length s.epochs) key)))
