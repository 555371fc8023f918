use Rattle.std.proofs.Common.{◌≡◌, drop}
use Rattle.hs_model.specs.Refusals.{no_handle_in}
use Rattle.hs_ops.specs.Views.{open_in}
use Rattle.hs_ops.proofs.view.OpView.holds_all.Given as goal

-- the handles so far are held
abbrev pub invariant-loop-handle : goal.invariant-loop-handle
invariant-loop-handle l = no_handle_in (open_in l.self l.session) (drop l.handle-index l.handles) ≡ no_handle_in (open_in l.self l.session) l.handles
