-- What a count of the disk's faults says of an answer.
use Rattle.std.specs.Prelude.{◌≡◌, ℕ, ⊤, Result, Ok, Err}
use Rattle.hs_ports.specs.Fault.{IsCausedBy}
use Rattle.hs_ports.specs.declared.fault.PortFault.{PortFault}
use Rattle.hs_ports.specs.declared.fault.PortFault.TheVariants as port
use Rattle.hs_side.specs.declared.fault.SideFault.{SideFault}
use Rattle.hs_side.specs.declared.fault.SideFault.TheVariants.{NotALog, Disk, NoMemory}

-- the count never falls, and `Disk` is answered only where it rose in this call
abbrev pub IsCaused : {T : Type 0} → ℕ → ℕ → Result T SideFault → Type 0
IsCaused before now result = IsCausedBy Disk before now result

-- Ok, and that the side is no log, are answered only where the count stands: a call that failed is told first
abbrev pub IsCalm : {T : Type 0} → ℕ → ℕ → Result T SideFault → Type 0
IsCalm before now (Ok x) = now ≡ before
IsCalm before now (Err (NotALog at)) = now ≡ before
IsCalm before now (Err Disk) = ⊤
IsCalm before now (Err NoMemory) = ⊤

-- the fault of a side where its disk has this one
abbrev pub of_port : PortFault → SideFault
of_port port.Failed = Disk
of_port port.NoMemory = NoMemory

-- any fault but that the side is no log
abbrev pub IsOutside : SideFault → Type 0
IsOutside (NotALog at) = ⊥
IsOutside Disk = ⊤
IsOutside NoMemory = ⊤
