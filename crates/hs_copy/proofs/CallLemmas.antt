-- What a call comes to that is refused.
use Rattle.std.proofs.Common.{◌≡◌, ◌∙◌, Bool, Result, Ok, Err, IfErr, sym, subst}
use Rattle.hs_asking.specs.Shown.{Shown}
use Rattle.hs_asking.specs.Telling.{grants}
use Rattle.hs_copy.specs.Calls.{CallFails, IsRefusedAs}
use Rattle.hs_copy.specs.declared.fault.PartFault.{PartFault}
use Rattle.hs_model.specs.declared.op.Op.{Op}
use Rattle.hs_model.specs.declared.reply.Reply.{Reply}
use Rattle.hs_tree.specs.Calls.{Hears}

-- a reply that is not as it was hoped for fails the call, whose operation p is o
pub refused_fails : {tells : Type 0} → {T : Type 0} (old new : Shown tells) (p o : Op) (told : Reply) (hoped : Bool) (r : Result T PartFault) → p ≡ o → grants o told ≡ hoped → Hears old new p told → IfErr r (λ f. IsRefusedAs told hoped f) → IfErr r (λ f. CallFails old new o f)
refused_fails old new p o told hoped (Ok x) same e h k = tt
refused_fails old new p o told hoped (Err f) same e h k = subst (CallFails old new o) (sym k.0) (subst (λ z. Hears old new z told) same h, e ∙ k.1)
