-- Whose fault it is.
use Rattle.std.specs.Prelude.{◌≡◌}
use Rattle.hs_copy.specs.declared.fault.CopyFault.{CopyFault}
use Rattle.hs_copy.specs.declared.fault.CopyFault.TheVariants as fault
use Rattle.hs_copy.specs.declared.fault.PartFault.{PartFault}
use Rattle.hs_copy.specs.declared.fault.PartFault.TheVariants as part

-- a fault of what is asked of the first store
abbrev pub IsFirst : PartFault → CopyFault → Type 0
IsFirst (part.Core core) f = f ≡ fault.First core
IsFirst (part.Refused told) f = f ≡ fault.Refused told
IsFirst part.TooMany f = f ≡ fault.CopyFull 4000
IsFirst part.NoMemory f = f ≡ fault.NoMemory

-- and of the second
abbrev pub IsSecond : PartFault → CopyFault → Type 0
IsSecond (part.Core core) f = f ≡ fault.Second core
IsSecond (part.Refused told) f = f ≡ fault.Refused told
IsSecond part.TooMany f = f ≡ fault.NoMemory
IsSecond part.NoMemory f = f ≡ fault.NoMemory
