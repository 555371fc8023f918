use Rattle.std.proofs.Common.{◌≡◌, Some, drop}
use Rattle.hs_model.specs.Refusals.{no_handle_in}
use Rattle.hs_plain.proofs.seat.Seat.no_handle.Given as goal

-- the handles so far are held
abbrev pub invariant-loop-handle : goal.invariant-loop-handle
invariant-loop-handle l = no_handle_in (Some l.self) (drop l.handle-index l.handles) ≡ no_handle_in (Some l.self) l.handles
