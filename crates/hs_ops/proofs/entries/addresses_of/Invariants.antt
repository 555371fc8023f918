use Rattle.std.proofs.Common.{◌≡◌, map, take}
use Rattle.hs_ops.specs.Speaking.{helds}
use Rattle.hs_ops.proofs.entries.addresses_of.Given as goal

-- the addresses so far
abbrev pub invariant-loop-handle : goal.invariant-loop-handle
invariant-loop-handle l = l.addresses ≡ map (λ held. held.address) (helds l.sessions l.session (take l.handle-index l.handles))
