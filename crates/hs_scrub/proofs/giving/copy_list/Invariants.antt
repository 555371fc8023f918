use Rattle.std.proofs.Common.{◌≡◌, length, map}
use Rattle.hs_scrub.proofs.GivingLemmas.{Giving}
use Rattle.hs_taking.specs.Disks.{seen_as}
use Rattle.hs_scrub.proofs.giving.copy_list.Given as goal

-- the first entries were given, and no call failed
abbrev pub invariant-loop-index : goal.invariant-loop-index
invariant-loop-index g l = record {
  giving : Giving g.D.Disk.tells l.source l.from l.place l.fn.watch l.watch l.index (map (λ disk. seen_as (g.D.Disk.size disk) (g.D.Disk.stands disk) (g.D.Disk.faults disk)) l.fn.disks) (map (λ disk. seen_as (g.D.Disk.size disk) (g.D.Disk.stands disk) (g.D.Disk.faults disk)) l.disks) l.fn.log l.log;
  count : length l.disks ≡ length l.fn.disks;
}
