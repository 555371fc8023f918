use Rattle.std.proofs.Common.{◌≡◌, ◌*◌, length, map}
use Rattle.hs_scrub.specs.CopySteps.{Copies}
use Rattle.hs_taking.specs.Disks.{seen_as}
use Rattle.hs_scrub.proofs.from_peer.copy_to_all.Given as goal

-- the first peers have the list, or were left
abbrev pub invariant-loop-peer : goal.invariant-loop-peer
invariant-loop-peer g l = record {
  copies : Copies g.D.Disk.tells l.shape l.source l.from l.fn.watch l.watch l.peer (l.shape.shards * l.shape.copies) (map (λ disk. seen_as (g.D.Disk.size disk) (g.D.Disk.stands disk) (g.D.Disk.faults disk)) l.fn.disks) (map (λ disk. seen_as (g.D.Disk.size disk) (g.D.Disk.stands disk) (g.D.Disk.faults disk)) l.disks) l.fn.out.items l.out.items;
  count : length l.disks ≡ length l.fn.disks;
}
