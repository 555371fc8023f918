-- So far what was gathered is what those have come to.
use Rattle.std.proofs.Common.{◌≡◌, ◌≤◌, ℕ, List, Option, vec_len}
use Rattle.std.specs.Prelude.{All}
use Rattle.hs_load.specs.Seating.{AreAskers, AreBack, HasCameBack}
use Rattle.hs_load.specs.Team.{Task}
use Rattle.hs_peerlog.specs.Lists.{Keeping}
use Rattle.hs_taking.specs.Disks.{DiskSeen}
use Rattle.hs_load.proofs.gathering.gather_all.Given as goal

abbrev pub invariant-loop-turn : goal.invariant-loop-turn
invariant-loop-turn g l = record {
  left : (slots : List (Option Keeping)) (disks : List DiskSeen) (now : ℕ) (task : Task)
      → All (HasCameBack g.D.Disk.tells g.D.Disk.size g.D.Disk.stands g.D.Disk.faults slots disks now task) l.initial.elements.items
      → All (HasCameBack g.D.Disk.tells g.D.Disk.size g.D.Disk.stands g.D.Disk.faults slots disks now task) l.elements.items;
  back : (slots : List (Option Keeping)) (disks : List DiskSeen) (now : ℕ) (task : Task)
      → All (HasCameBack g.D.Disk.tells g.D.Disk.size g.D.Disk.stands g.D.Disk.faults slots disks now task) l.initial.elements.items
      → AreBack g.D.Disk.tells g.D.Disk.size g.D.Disk.stands g.D.Disk.faults slots disks l.initial.back.items
      → AreBack g.D.Disk.tells g.D.Disk.size g.D.Disk.stands g.D.Disk.faults slots disks l.back.items;
  told : (slots : List (Option Keeping)) (disks : List DiskSeen) (now : ℕ) (task : Task) → task.writers ≡ l.writers
      → All (HasCameBack g.D.Disk.tells g.D.Disk.size g.D.Disk.stands g.D.Disk.faults slots disks now task) l.initial.elements.items
      → AreAskers task l.initial.told.items → AreAskers task l.told.items;
  back_count : vec_len l.back ≡ vec_len l.initial.back;
  told_count : vec_len l.told ≡ vec_len l.initial.told;
  ticks : l.initial.watch ≤ l.watch;
}
