-- A line's operation with the address of its block comes as it has to be asked.
use Rattle.std.proofs.Common.{◌≡◌, ℕ, Bool, true, false, List, Some, None, refl, subst}
use Rattle.std.specs.Prelude.{if◌then◌else◌}
use Rattle.hs_answered.specs.Asked.{IsAsked}
use Rattle.hs_journal.specs.Events.{address_of, addressed, has_block}
use Rattle.hs_limits.specs.declared.address.Address.{Address}
use Rattle.hs_model.specs.declared.op.Op.{Op}
use Rattle.hs_model.specs.declared.op.Op.TheVariants as op
use Rattle.hs_model.specs.Judge.{written}
use Rattle.hs_model.specs.Store.{Store}

asked_addressed : (name : List ℕ → Address) (s : Store) (said : Op) → IsAsked s (addressed name s said)
asked_addressed name s (op.Open session) = tt
asked_addressed name s (op.Close session) = tt
asked_addressed name s (op.Write session payload handles address) = go (has_block s session payload handles) refl
  where
    go : (b : Bool) → has_block s session payload handles ≡ b → IsAsked s (op.Write session payload handles (if b then Some (address_of name (written s session payload handles)) else None))
    go true e = tt
    go false e = e
asked_addressed name s (op.Read session handle) = tt
asked_addressed name s (op.Look session key) = tt
asked_addressed name s (op.Root session key handle) = tt
asked_addressed name s (op.Drop key) = tt
asked_addressed name s (op.Forget session handle) = tt
asked_addressed name s (op.Name session handle) = tt
asked_addressed name s op.Delete = tt
asked_addressed name s op.Stat = tt

pub asked_from_said : (name : List ℕ → Address) (s : Store) (said o : Op) → addressed name s said ≡ o → IsAsked s o
asked_from_said name s said o same = subst (λ q. IsAsked s q) same (asked_addressed name s said)
