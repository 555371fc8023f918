-- A run that was begun never ends as Usage.
use Rattle.std.proofs.Common.{◌≡◌, ℕ, Result, Ok, Err}
use Rattle.std.specs.Prelude.{⊤}
use Rattle.hs_promise.specs.declared.status.Status.TheVariants as status
use Rattle.hs_run.specs.declared.stop.Stop.{Stop}
use Rattle.hs_run.specs.declared.stop.Stop.TheVariants as stop
use Rattle.hs_run.specs.Stopping.{status_of}

pub never_usage : (r : Result ⊤ Stop) (line : ℕ) → status_of r line ≡ status.Usage → ⊥
never_usage (Ok x) line is = cc
never_usage (Err (stop.WrongShape peer found)) line is = cc
never_usage (Err (stop.ShardLost shard)) line is = cc
never_usage (Err stop.BadLine) line is = cc
never_usage (Err stop.ReadFault) line is = cc
never_usage (Err stop.WriteFault) line is = cc
never_usage (Err stop.NoMemory) line is = cc
never_usage (Err stop.OpsFull) line is = cc
never_usage (Err stop.InputFull) line is = cc
