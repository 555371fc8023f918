use Rattle.std.proofs.Common.{ℕ, ◌+◌, ◌<◌}
use Rattle.std.specs.Prelude.{slice_index_or}
use Rattle.hs_rounds.proofs.ChangeLemmas.{Below, no_delta}
use Rattle.hs_rounds.proofs.changes.ascend.Given as goal

abbrev pub invariant-loop-index : goal.invariant-loop-index
invariant-loop-index l =
    (k : ℕ) → k + 1 < l.index → Below (slice_index_or l.deltas k no_delta).address (slice_index_or l.deltas (k + 1) no_delta).address
