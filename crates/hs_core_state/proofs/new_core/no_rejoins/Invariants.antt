use Rattle.std.proofs.Common.{◌≡◌, replicate, None}
use Rattle.hs_core_state.proofs.new_core.no_rejoins.Given as goal

abbrev pub invariant-loop-peer : goal.invariant-loop-peer
invariant-loop-peer l = l.rejoins.items ≡ replicate l._peer None
