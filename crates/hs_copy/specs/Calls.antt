-- What one call of an asker comes to.
use Rattle.std.specs.Prelude.{◌≡◌, Bool, false}
use Rattle.hs_asking.specs.Shown.{Shown}
use Rattle.hs_asking.specs.Telling.{grants}
use Rattle.hs_copy.specs.declared.fault.PartFault.{PartFault}
use Rattle.hs_copy.specs.declared.fault.PartFault.TheVariants as part
use Rattle.hs_model.specs.declared.op.Op.{Op}
use Rattle.hs_model.specs.declared.reply.Reply.{Reply}
use Rattle.hs_tree.specs.Calls.{Ends, Hears}

-- a call fails for memory before it asks, with the asker, or where it is refused
abbrev pub CallFails : {tells : Type 0} → Shown tells → Shown tells → Op → PartFault → Type 0
CallFails old new o (part.Core core) = Ends old new o core
CallFails old new o (part.Refused told) = Hears old new o told × (grants o told ≡ false)
CallFails old new o part.TooMany = ⊥
CallFails old new o part.NoMemory = new ≡ old

-- a reply that is not as it was hoped for is the refusal
abbrev pub IsRefusedAs : Reply → Bool → PartFault → Type 0
IsRefusedAs told hoped f = (f ≡ part.Refused told) × (hoped ≡ false)

-- it was answered somehow
pub record IsHeard {tells : Type 0} (old new : Shown tells) (o : Op) : Type 0 where
  pub told : Reply
  pub hears : Hears old new o told

-- the asker has ended
abbrev pub IsCore : PartFault → Type 0
IsCore (part.Core core) = Unit {0}
IsCore other = ⊥
