use Rattle.std.proofs.Common.{◌≡◌, drop}
use Rattle.hs_model.specs.Refusals.{stale_in}
use Rattle.hs_ops.specs.Views.{now_in, open_in}
use Rattle.hs_ops.proofs.view.OpView.are_fresh.Given as goal

-- no handle so far is stale
abbrev pub invariant-loop-handle : goal.invariant-loop-handle
invariant-loop-handle l = stale_in (open_in l.self l.session) (now_in l.self) (drop l.handle-index l.handles) ≡ stale_in (open_in l.self l.session) (now_in l.self) l.handles
