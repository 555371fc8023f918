use Rattle.std.proofs.Common.{◌≡◌, Some, drop}
use Rattle.hs_model.specs.Refusals.{stale_in}
use Rattle.hs_plain.proofs.seat.Seat.stale.Given as goal

-- no handle so far is stale
abbrev pub invariant-loop-handle : goal.invariant-loop-handle
invariant-loop-handle l = stale_in (Some l.self) l.now (drop l.handle-index l.handles) ≡ stale_in (Some l.self) l.now l.handles
