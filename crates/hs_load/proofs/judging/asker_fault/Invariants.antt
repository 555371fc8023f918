-- So far nobody was told a fault.
use Rattle.std.proofs.Common.{◌≡◌, ◌<◌, ℕ, None, get_or}
use Rattle.hs_promise.specs.declared.load.Kept.{Kept}
use Rattle.hs_load.proofs.judging.asker_fault.Given as goal

abbrev pub invariant-loop-given : goal.invariant-loop-given
invariant-loop-given l = (k : ℕ) (d : Kept) → k < l.given-index → (get_or l.kept k d).fault ≡ None
