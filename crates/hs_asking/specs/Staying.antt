-- What stays in a store while shards and clients go on.
use Rattle.std.specs.Prelude.{ℕ, ◌+◌, ◌≡◌, ◌≤◌, List, Some, slice_index}
use Rattle.hs_limits.specs.declared.address.Address.{Address}
use Rattle.hs_model.specs.Reach.{Leads}
use Rattle.hs_model.specs.Run.{Event, asks, enters, sweeps}
use Rattle.hs_model.specs.Store.{Root, Store, block_at, held_at, retained_at}
use Rattle.hs_model.specs.declared.op.Op.{Op}
use Rattle.hs_model.specs.declared.op.Op.TheVariants as op

-- all that an address leads to in a store it leads to in another, with the same blocks
pub record Stays (s t : Store) (a : Address) : Type 0 where
  pub leads : (path : List Address) (b : Address) → Leads s a path b → Leads t a path b
  pub blocks : (path : List Address) (b : Address) → Leads s a path b → block_at t b ≡ block_at s b

-- a handle that may be used as long as shard 0 stays in its epoch, or a root that is not dropped, keeps an address
pub data IsKept (s : Store) (a : Address) : Type 0 where
  by_handle : (name : List ℕ) (handle epoch : ℕ) → held_at s name handle ≡ Some (record { address = a; epoch = epoch }) → slice_index s.epochs 0 ≤ epoch + 1 → IsKept s a
  by_root : (key : List ℕ) (root : Root) → retained_at s key ≡ Some root → root.address ≡ a → IsKept s a

-- an operation that doesn't drop a key
abbrev pub NotDropping : List ℕ → Op → Type 0
NotDropping key (op.Drop taken) = taken ≡ key → ⊥
NotDropping key other = Unit {0}

-- so it is of an event
abbrev pub NeverDrops : List ℕ → Event → Type 0
NeverDrops key (asks o) = NotDropping key o
NeverDrops key (enters shard) = Unit {0}
NeverDrops key (sweeps shard) = Unit {0}
