use Rattle.std.proofs.Common.{◌≡◌, ◌<◌, ℕ, drop, None}
use Rattle.std.specs.Prelude.{slice_index_or}
use Rattle.hs_readable.specs.Ascending.{are_ascending}
use Rattle.hs_entry.specs.Reading.{IsDelta}
use Rattle.hs_limits.specs.declared.delta.Delta.{Delta}
use Rattle.hs_readable.proofs.readable.are_ascending.Given as goal

abbrev pub invariant-loop-delta : goal.invariant-loop-delta
invariant-loop-delta l = record {
  walked : are_ascending l.last (drop l.delta-index l.deltas) ≡ are_ascending None l.deltas;
  each : (k : ℕ) (d : Delta) → k < l.delta-index → IsDelta (slice_index_or l.deltas k d);
}
