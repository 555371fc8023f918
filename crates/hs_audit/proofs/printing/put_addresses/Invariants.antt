-- So far, the front of the addresses is written.
use Rattle.std.proofs.Common.{◌≡◌, ◌++◌, take}
use Rattle.std.specs.List.{flat_map}
use Rattle.hs_audit.specs.Text.{missing_line}
use Rattle.hs_audit.proofs.printing.put_addresses.Given as goal

abbrev pub invariant-loop-address : goal.invariant-loop-address
invariant-loop-address l =
    l.out.items ≡ l.initial.out.items ++ flat_map missing_line (take l.address-index l.missing)
