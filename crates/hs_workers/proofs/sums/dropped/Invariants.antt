use Rattle.std.proofs.Common.{◌≡◌, take, count_by}
use Rattle.hs_workers.specs.Asks.{drops_file}
use Rattle.hs_workers.proofs.sums.dropped.Given as goal

abbrev pub invariant-loop-deed : goal.invariant-loop-deed
invariant-loop-deed l = l.count ≡ count_by (λ item. drops_file item.1) (take l.deed-index l.answers)
