-- So far all are seated.
use Rattle.std.proofs.Common.{◌≡◌, ℕ, List, Option}
use Rattle.std.specs.Prelude.{All}
use Rattle.hs_load.specs.Seating.{IsSeated}
use Rattle.hs_load.specs.Team.{Task}
use Rattle.hs_peerlog.specs.Lists.{Keeping}
use Rattle.hs_taking.specs.Disks.{DiskSeen}
use Rattle.hs_load.proofs.seating.seat_askers.Given as goal

abbrev pub invariant-loop-number : goal.invariant-loop-number
invariant-loop-number g l = (slots : List (Option Keeping)) (old : List DiskSeen) (now : ℕ) (task : Task) → task.writers ≡ l.writers
    → All (IsSeated g.D.Disk.tells g.D.Disk.size g.D.Disk.stands g.D.Disk.faults slots old now task) l.initial.elements.items
    → All (IsSeated g.D.Disk.tells g.D.Disk.size g.D.Disk.stands g.D.Disk.faults slots old now task) l.elements.items
