-- So far, what the first writers counted.
use Rattle.hs_load.specs.Loaded.{AreSums}
use Rattle.hs_load.proofs.summing.sums_of.Given as goal

abbrev pub invariant-loop-number : goal.invariant-loop-number
invariant-loop-number l = AreSums l.sums.items l.number l.ends
