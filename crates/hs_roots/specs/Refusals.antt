-- Why a call on the roots is refused, where it is: the first cause that holds, in the order of the rules.
use Rattle.std.specs.Prelude.{not, if◌then◌else◌, Option, Some, None, bytes_eq, nat_le}
use Rattle.hs_limits.specs.declared.address.Address.{Address}
use Rattle.hs_roots.specs.declared.fault.RootFault.{RootFault}
use Rattle.hs_roots.specs.declared.fault.RootFault.TheVariants.{KeyTaken, NoKey, RootsFull}
use Rattle.hs_roots.specs.declared.root.RootRecord.{RootRecord}
use Rattle.hs_roots.specs.Roots.{Retention, retained_count}

-- by the root that is retained under the key: it keeps another address, or there is none and as many as the limit are retained
abbrev pub put_refusal : Retention → Address → Option RootRecord → Option RootFault
put_refusal set a (Some root) = if not (bytes_eq root.address.0 a.0) then Some KeyTaken else None
put_refusal set a None = if nat_le set.limit (retained_count set.roots) then Some (RootsFull set.limit) else None

-- no root is retained under the key
abbrev pub drop_refusal : Option RootRecord → Option RootFault
drop_refusal (Some root) = None
drop_refusal None = Some NoKey
