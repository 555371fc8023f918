-- So far, the set has the first addresses.
use Rattle.std.proofs.Common.{◌≡◌, take}
use Rattle.hs_limits.specs.declared.address.Address.{Address}
use Rattle.hs_model.specs.Reach.{is_among}
use Rattle.hs_load.proofs.reaching.set_of.Given as goal

abbrev pub invariant-loop-address : goal.invariant-loop-address
invariant-loop-address l = (a : Address) → is_among l.set.keys a ≡ is_among (take l.address-index l.addresses) a
