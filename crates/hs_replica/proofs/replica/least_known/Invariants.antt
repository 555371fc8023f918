use Rattle.std.proofs.Common.{◌≡◌, drop}
use Rattle.hs_replica.specs.Group.{least_known}
use Rattle.hs_replica.proofs.replica.least_known.Given as goal

abbrev pub invariant-loop-index : goal.invariant-loop-index
invariant-loop-index l = l.least ≡ least_known (drop l.index l.copies)
