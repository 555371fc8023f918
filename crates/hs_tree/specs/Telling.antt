-- Replies that give a handle, and what was done.
use Rattle.std.specs.Prelude.{Bool, List, [], ◌∷◌, ℕ, ◌≡◌, false}
use Rattle.hs_asking.specs.Shown.{Shown}
use Rattle.hs_model.specs.declared.op.Op.{Op}
use Rattle.hs_model.specs.declared.op.Op.TheVariants as op
use Rattle.hs_model.specs.declared.reply.Reply.{Reply}
use Rattle.hs_model.specs.declared.reply.Reply.TheVariants as reply
use Rattle.hs_tree.specs.Calls.{Hears}
use Rattle.hs_tree.specs.declared.fault.TreeFault.{TreeFault}
use Rattle.hs_tree.specs.declared.fault.TreeFault.TheVariants as fault

-- the handle that a reply to a write gives
abbrev pub GivesWritten : Reply → ℕ → Type 0
GivesWritten (reply.New given epoch) handle = handle ≡ given
GivesWritten (reply.Dup given epoch) handle = handle ≡ given
GivesWritten other handle = ⊥

-- the handle that a reply to a look gives
abbrev pub GivesLooked : Reply → ℕ → Type 0
GivesLooked (reply.Held given epoch) handle = handle ≡ given
GivesLooked other handle = ⊥

-- a reply that is not as it was hoped for is the refusal
abbrev pub IsRefusedAs : Reply → Bool → TreeFault → Type 0
IsRefusedAs told hoped f = (f ≡ fault.Refused told) × (hoped ≡ false)

-- a write was answered by a handle
pub record IsWrittenAs {tells : Type 0} (old new : Shown tells) (o : Op) (handle : ℕ) : Type 0 where
  pub told : Reply
  pub hears : Hears old new o told
  pub gives : GivesWritten told handle

-- so was a look
pub record IsLookedAs {tells : Type 0} (old new : Shown tells) (o : Op) (handle : ℕ) : Type 0 where
  pub told : Reply
  pub hears : Hears old new o told
  pub gives : GivesLooked told handle

-- an operation of a storing was done: a write gave a handle, and any other one was answered with Ok
abbrev pub IsDoneBy : Op → Reply → Type 0
IsDoneBy (op.Write name payload handles address) told = (handle : ℕ) × GivesWritten told handle
IsDoneBy other told = told ≡ reply.Ok

-- some were asked for, each behind the answer to the one before it, and all of them were done
abbrev pub AreDone : {tells : Type 0} → Shown tells → Shown tells → List Op → Type 0
AreDone {tells} start now [] = now ≡ start
AreDone {tells} start now (o ∷ ops) = (mid : Shown tells) × (told : Reply) × Hears start mid o told × IsDoneBy o told × AreDone mid now ops
