use Rattle.std.proofs.Common.{◌≡◌, map}
use Rattle.hs_taking.specs.Evens.{log_of}
use Rattle.hs_taking.proofs.shares.logs_of.Given as goal

abbrev pub invariant-loop-slot : goal.invariant-loop-slot
invariant-loop-slot l = l.logs.items ≡ map log_of l.yielded
