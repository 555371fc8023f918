use Rattle.std.proofs.Common.{◌≡◌, replicate, []}
use Rattle.hs_core_state.proofs.new_core.no_tasks.Given as goal

abbrev pub invariant-loop-peer : goal.invariant-loop-peer
invariant-loop-peer l = l.tasks.items ≡ replicate l._peer []
