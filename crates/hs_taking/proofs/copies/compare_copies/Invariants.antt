use Rattle.std.proofs.Common.{◌≡◌, length, map}
use Rattle.hs_limits.specs.Shape.{peer_of}
use Rattle.hs_taking.specs.Disks.{seen_as}
use Rattle.hs_taking.specs.Slots.{AreSorted}
use Rattle.hs_taking.proofs.copies.compare_copies.Given as goal

-- the views of the first copies were compared
abbrev pub invariant-loop-copy : goal.invariant-loop-copy
invariant-loop-copy g l = record {
  sorted : AreSorted g.D.Disk.tells l.shape l.shard l.from (peer_of l.shape l.shard l.copy) (map (λ disk. seen_as (g.D.Disk.size disk) (g.D.Disk.stands disk) (g.D.Disk.faults disk)) l.fn.disks) (map (λ disk. seen_as (g.D.Disk.size disk) (g.D.Disk.stands disk) (g.D.Disk.faults disk)) l.disks) l.fn.slots.items l.slots.items l.lost;
  count : length l.disks ≡ length l.fn.disks;
  slots : length l.slots.items ≡ length l.fn.slots.items;
}
