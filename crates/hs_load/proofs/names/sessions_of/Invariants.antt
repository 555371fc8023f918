-- So far, the sessions of the first writers.
use Rattle.std.proofs.Common.{◌≡◌}
use Rattle.hs_load.specs.Team.{sessions_of}
use Rattle.hs_load.proofs.names.sessions_of.Given as goal

abbrev pub invariant-loop-number : goal.invariant-loop-number
invariant-loop-number l = l.names.items ≡ sessions_of l.number
