-- So far, what the first writers kept is taken off.
use Rattle.std.proofs.Common.{◌≡◌, ◌+◌, take}
use Rattle.std.specs.Prelude.{sum_by}
use Rattle.hs_load.proofs.tallying.are_kept.Given as goal

abbrev pub invariant-loop-sum : goal.invariant-loop-sum
invariant-loop-sum l = l.roots ≡ l.left + sum_by (λ sum. sum.kept) (take l.sum-index l.sums)
