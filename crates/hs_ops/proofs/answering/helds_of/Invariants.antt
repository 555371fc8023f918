use Rattle.std.proofs.Common.{◌≡◌, take}
use Rattle.hs_model.specs.Store.{helds_of}
use Rattle.hs_ops.proofs.answering.helds_of.Given as goal

-- the addresses so far, each held in the epoch
abbrev pub invariant-loop-address : goal.invariant-loop-address
invariant-loop-address l = l.helds ≡ helds_of (take l.address-index l.addresses) l.epoch
