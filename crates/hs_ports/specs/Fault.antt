-- What a count of faults says of an answer.
use Rattle.std.specs.Prelude.{◌≡◌, ℕ, ◌+◌, ◌-◌, ◌^◌, ◌≤◌, ⊤, min, Result, Ok, Err, IsErrOf}
use Rattle.hs_ports.specs.declared.fault.PortFault.{PortFault}
use Rattle.hs_ports.specs.declared.fault.PortFault.TheVariants.{Failed, NoMemory}

-- the count rose, or stands at the end of a u64
abbrev pub HasRisen : ℕ → ℕ → Type 0
HasRisen before now = min (before + 1) (2 ^ 64 - 1) ≤ now

-- the count never falls, and this fault is answered only where it rose in this call
pub record IsCausedBy {T E : Type 0} (fault : E) (before now : ℕ) (result : Result T E) : Type 0 where
  pub later : before ≤ now
  pub failed : IsErrOf result fault → HasRisen before now

-- a call that fails is counted, and only such a call
abbrev pub IsSteady : {T : Type 0} → ℕ → ℕ → Result T PortFault → Type 0
IsSteady before now (Ok x) = now ≡ before
IsSteady before now (Err NoMemory) = now ≡ before
IsSteady before now (Err Failed) = ⊤
