-- So far the last peers are seated or laid aside, and the disks and logs of the first ones are left.
use Rattle.std.proofs.Common.{◌≡◌, ℕ, List, Option, length, map, take, vec_len}
use Rattle.std.specs.Prelude.{All}
use Rattle.hs_load.specs.Seating.{AreBack, IsSeated}
use Rattle.hs_load.specs.Team.{Task}
use Rattle.hs_peerlog.specs.Lists.{Keeping}
use Rattle.hs_taking.specs.Disks.{DiskSeen, seen_as}
use Rattle.hs_load.proofs.seating.seat_peers.Given as goal

abbrev pub invariant-loop-turn : goal.invariant-loop-turn
invariant-loop-turn g l = record {
  disks : l.disks.items ≡ take (length l.disks.items) l.initial.disks.items;
  same : length l.logs.items ≡ length l.disks.items;
  logs : l.logs.items ≡ take (length l.logs.items) l.initial.logs.items;
  seated : (task : Task) → All (IsSeated g.D.Disk.tells g.D.Disk.size g.D.Disk.stands g.D.Disk.faults l.initial.logs.items
      (map (λ disk. seen_as (g.D.Disk.size disk) (g.D.Disk.stands disk) (g.D.Disk.faults disk)) l.initial.disks.items) l.watch task) l.initial.elements.items
      → All (IsSeated g.D.Disk.tells g.D.Disk.size g.D.Disk.stands g.D.Disk.faults l.initial.logs.items
      (map (λ disk. seen_as (g.D.Disk.size disk) (g.D.Disk.stands disk) (g.D.Disk.faults disk)) l.initial.disks.items) l.watch task) l.elements.items;
  back : AreBack g.D.Disk.tells g.D.Disk.size g.D.Disk.stands g.D.Disk.faults l.initial.logs.items
      (map (λ disk. seen_as (g.D.Disk.size disk) (g.D.Disk.stands disk) (g.D.Disk.faults disk)) l.initial.disks.items) l.initial.back.items
      → AreBack g.D.Disk.tells g.D.Disk.size g.D.Disk.stands g.D.Disk.faults l.initial.logs.items
      (map (λ disk. seen_as (g.D.Disk.size disk) (g.D.Disk.stands disk) (g.D.Disk.faults disk)) l.initial.disks.items) l.back.items;
  count : vec_len l.back ≡ vec_len l.initial.back;
}
