-- The first fault is that of what is left, numbered on.
use Rattle.std.proofs.Common.{◌≡◌, ◌+◌, length}
use Rattle.hydra.specs.FileNote.{first_fault}
use Rattle.hydra.proofs.notes.first_fault.Given as goal

abbrev pub invariant-disks : goal.invariant-disks
invariant-disks l = (l.peer + length l.rest ≡ length l.disks) × (first_fault 0 l.disks ≡ first_fault l.peer l.rest)

abbrev pub decreases-disks : goal.decreases-disks
decreases-disks l = length l.rest
