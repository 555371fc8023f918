-- The first call on the file of a side that failed.
use Rattle.std.specs.Prelude.{◌≡◌, ℕ, Bool, true, false, List, Option, Some, None, Result, Err, IfSome, IsSome, codes}
use Rattle.std.specs.Option.{is_some}
use Rattle.hs_ports.specs.declared.disk.Side.TheVariants.{Zero, One}
use Rattle.hs_ports.specs.declared.fault.PortFault.{PortFault}
use Rattle.hs_ports.specs.declared.fault.PortFault.TheVariants.{Failed}
use Rattle.hydra.specs.declared.file_fault.Deed.{Deed}
use Rattle.hydra.specs.declared.file_fault.Deed.TheVariants as deed
use Rattle.hydra.specs.declared.file_fault.FileFault.{FileFault}
use Rattle.hydra.specs.declared.file_fault.SideFault.{SideFault}

-- what could not be done, in words
abbrev pub deed_words : Deed → List ℕ
deed_words deed.Make = codes "made"
deed_words deed.Open = codes "opened"
deed_words deed.Lock = codes "locked"
deed_words deed.Read = codes "read"
deed_words deed.Write = codes "written"
deed_words deed.Cut = codes "cut"
deed_words deed.Sync = codes "synced"

-- whether it is done with the folder, and not with a file in it
abbrev pub is_of_folder : Deed → Bool
is_of_folder deed.Make = true
is_of_folder deed.Open = false
is_of_folder deed.Lock = false
is_of_folder deed.Read = false
is_of_folder deed.Write = false
is_of_folder deed.Cut = false
is_of_folder deed.Sync = false

-- a fault that is kept stays: it is the first one
abbrev pub Keeps : Option SideFault → Option SideFault → Type 0
Keeps old new = IfSome old (λ fault. new ≡ Some fault)

-- where a call failed, a fault is kept
abbrev pub Tells : {T : Type 0} → Result T PortFault → Option SideFault → Type 0
Tells result fault = result ≡ Err Failed → IsSome fault

-- the first fault of a disk: of side zero, and else of side one
abbrev pub fault_in : Option SideFault → Option SideFault → Option FileFault
fault_in (Some fault) other = Some (record { side = Zero; fault = fault })
fault_in None (Some fault) = Some (record { side = One; fault = fault })
fault_in None None = None

-- whether a disk has a fault
abbrev pub is_faulty : Option SideFault → Option SideFault → Bool
is_faulty zero one = is_some (fault_in zero one)
