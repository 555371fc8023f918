-- So far no worker was told a fault.
use Rattle.std.proofs.Common.{◌≡◌, ◌<◌, ℕ, None, get_or}
use Rattle.hs_promise.specs.declared.load.Stored.{Stored}
use Rattle.hs_load.proofs.judging.worker_fault.Given as goal

abbrev pub invariant-loop-peer : goal.invariant-loop-peer
invariant-loop-peer l = (k : ℕ) (d : Stored) → k < l.peer → (get_or l.stored k d).fault ≡ None
