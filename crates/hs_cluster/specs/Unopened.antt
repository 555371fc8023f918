-- What is left of the disks where no core was opened.
use Rattle.std.specs.Prelude.{length, ℕ, ◌<◌}
use Rattle.hs_taking.specs.Disks.{seen_at}
use Rattle.hs_taking.specs.Shares.{KeepsDisk, Span}

-- the calls on each disk leave its list as it was at entry, at each moment, and its past, and no count of faults falls
pub record LeavesAsTaken (tells : Type 0) (span : Span) : Type 0 where
  pub each : (peer : ℕ) → peer < length span.old → KeepsDisk tells span.before span.now (seen_at span.old peer) (seen_at span.new peer)
