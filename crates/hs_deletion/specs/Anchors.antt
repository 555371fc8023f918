-- What is present, what the anchors of a run are, and what they reach.
use Rattle.std.specs.Prelude.{◌≡◌, ◌⊎◌, ℕ, ◌-◌, ◌≤◌, List, Option, Some, None, unwrap_or}
use Rattle.hs_limits.specs.declared.address.Address.{Address}
use Rattle.hs_deletion.specs.Reached.{Member, Reached}
use Rattle.hs_deletion.specs.Records.{BlockRecord, RootRecord}
use Rattle.hs_deletion.specs.Machine.{Machine}

-- a block with the address is present
pub record IsThere (blocks : List BlockRecord) (a : Address) : Type 0 where
  pub block : BlockRecord
  pub stands : Member block blocks
  pub here : block.address ≡ a

-- a present block at the first address has the second among its pointers
pub record PointsTo (blocks : List BlockRecord) (a b : Address) : Type 0 where
  pub block : BlockRecord
  pub stands : Member block blocks
  pub here : block.address ≡ a
  pub pointer : Member b block.pointers

-- a write gave the present address in this epoch or later
pub record IsGivenSince (blocks : List BlockRecord) (epoch : ℕ) (a : Address) : Type 0 where
  pub block : BlockRecord
  pub stands : Member block blocks
  pub here : block.address ≡ a
  pub since : epoch ≤ block.mark

-- not dropped, or dropped in this epoch or later
abbrev pub NotBefore : ℕ → Option ℕ → Type 0
NotBefore epoch None = Unit {0}
NotBefore epoch (Some dropped) = epoch ≤ dropped

-- a root that was not dropped before this epoch keeps the address
pub record IsRootedSince (roots : List RootRecord) (epoch : ℕ) (a : Address) : Type 0 where
  pub root : RootRecord
  pub kept : Member root roots
  pub to : Member a root.addresses
  pub counts : NotBefore epoch root.dropped

-- the anchors of a run: what was given in the epoch before it or later, and what a root keeps that was not dropped before then
abbrev pub IsAnchor : Machine → ℕ → Address → Type 0
IsAnchor m run a = IsGivenSince m.blocks (run - 1) a ⊎ IsRootedSince m.roots (run - 1) a

-- what the anchors of a run reach
abbrev pub IsReachedIn : Machine → ℕ → Address → Type 0
IsReachedIn m run a = Reached (IsAnchor m run) (PointsTo m.blocks) a

-- a root keeps the address that was dropped in an epoch or later, or is not dropped and is of a shard in it or later
pub record IsRootStanding (m : Machine) (epoch : ℕ) (a : Address) : Type 0 where
  pub root : RootRecord
  pub kept : Member root m.roots
  pub to : Member a root.addresses
  pub stands : epoch ≤ unwrap_or root.dropped (m.states root.home).epoch

-- what a client was given in an epoch rests on what was given in it or later, and on such roots
abbrev pub IsGround : Machine → ℕ → Address → Type 0
IsGround m epoch a = IsGivenSince m.blocks epoch a ⊎ IsRootStanding m epoch a

-- what may have been given in an epoch: it is reached from what that rests on
abbrev pub IsHeldOf : Machine → ℕ → Address → Type 0
IsHeldOf m epoch a = Reached (IsGround m epoch) (PointsTo m.blocks) a
