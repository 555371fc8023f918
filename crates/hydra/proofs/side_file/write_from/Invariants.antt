use Rattle.std.proofs.Common.{length, ◌-◌, ◌≤◌}
use Rattle.hydra.specs.SideFault.{Keeps}
use Rattle.hydra.proofs.side_file.write_from.Given as goal

abbrev pub invariant-pieces : goal.invariant-pieces
invariant-pieces g l = (l.done ≤ length l.bytes) × Keeps l.initial.fault l.fault

abbrev pub decreases-pieces : goal.decreases-pieces
decreases-pieces g l = length l.bytes - l.done
