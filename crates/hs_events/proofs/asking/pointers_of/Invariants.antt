use Rattle.std.proofs.Common.{◌≡◌, take}
use Rattle.hs_ops.specs.Speaking.{asked_pointers}
use Rattle.hs_events.proofs.asking.pointers_of.Given as goal

abbrev pub invariant-loop-handle : goal.invariant-loop-handle
invariant-loop-handle l = l.pointers ≡ asked_pointers l.core.sessions l.session (take l.handle-index l.handles)
