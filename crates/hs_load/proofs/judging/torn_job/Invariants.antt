-- So far no worker stopped so.
use Rattle.std.proofs.Common.{◌≡◌, ◌<◌, ℕ, Option, false, get_or}
use Rattle.hs_workers.specs.declared.fault.WorkFault.{WorkFault}
use Rattle.hs_load.specs.Judged.{is_torn, stopped_by}
use Rattle.hs_load.proofs.judging.torn_job.Given as goal

abbrev pub invariant-loop-peer : goal.invariant-loop-peer
invariant-loop-peer l = (k : ℕ) (stop : Option WorkFault) → k < l.peer → stopped_by is_torn (get_or l.stops k stop) ≡ false
