-- So far, the set has the addresses of the first blocks.
use Rattle.std.proofs.Common.{◌≡◌, take}
use Rattle.hs_audit.proofs.MissingLemmas.{addresses_of}
use Rattle.hs_limits.specs.declared.address.Address.{Address}
use Rattle.hs_model.specs.Reach.{is_among}
use Rattle.hs_audit.proofs.missing.present.Given as goal

abbrev pub invariant-loop-block : goal.invariant-loop-block
invariant-loop-block l = (a : Address) → is_among l.set.keys a ≡ is_among (take l.block-index (addresses_of l.blocks)) a
