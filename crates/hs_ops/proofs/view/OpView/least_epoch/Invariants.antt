use Rattle.std.proofs.Common.{◌≡◌, drop, fold, min}
use Rattle.hs_limits.specs.declared.address.Held.{Held}
use Rattle.hs_limits.specs.declared.limits.TheConstants.{LAST_EPOCH}
use Rattle.hs_ops.specs.Speaking.{helds}
use Rattle.hs_ops.proofs.view.OpView.least_epoch.Given as goal

-- the least so far
abbrev pub invariant-loop-handle : goal.invariant-loop-handle
invariant-loop-handle l = fold (λ least (held : Held). min least held.epoch) l.least (helds l.self.seats l.session (drop l.handle-index l.handles)) ≡ fold (λ least (held : Held). min least held.epoch) LAST_EPOCH (helds l.self.seats l.session l.handles)
