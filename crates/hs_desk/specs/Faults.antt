-- What calls make of faults.
use Rattle.std.specs.Prelude.{◌≡◌, Option, Some, None, Result, Ok, Err, IfSome}
use Rattle.hs_desk.specs.declared.fault.CoreFault.{CoreFault}

-- the fault that a call answers, and else the one before
abbrev pub fault_after : {T : Type 0} → Result T CoreFault → Option CoreFault → Option CoreFault
fault_after (Ok x) before = before
fault_after (Err fault) before = Some fault

-- why a book has ended, before and behind a call: the first fault stays, and is what each later call answers
abbrev pub EndsOnce : {T : Type 0} → Option CoreFault → Option CoreFault → Result T CoreFault → Type 0
EndsOnce before after (Ok x) = (before ≡ None) × (after ≡ None)
EndsOnce before after (Err fault) = (after ≡ Some fault) × IfSome before (λ earlier. fault ≡ earlier)
