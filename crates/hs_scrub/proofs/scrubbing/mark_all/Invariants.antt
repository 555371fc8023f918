use Rattle.std.proofs.Common.{◌≡◌, length, map}
use Rattle.hs_scrub.specs.Steps.{AreDone}
use Rattle.hs_taking.specs.Disks.{seen_as}
use Rattle.hs_scrub.proofs.scrubbing.mark_all.Given as goal

-- the first shards are marked
abbrev pub invariant-loop-shard : goal.invariant-loop-shard
invariant-loop-shard g l = record {
  done : AreDone g.D.Disk.tells l.shape l.shard l.lengths.items (record { disks = map (λ disk. seen_as (g.D.Disk.size disk) (g.D.Disk.stands disk) (g.D.Disk.faults disk)) l.fn.disks; views = l.fn.views; marks = l.fn.marks }) (record { disks = map (λ disk. seen_as (g.D.Disk.size disk) (g.D.Disk.stands disk) (g.D.Disk.faults disk)) l.disks; views = l.views; marks = l.marks });
  lengths : length l.lengths.items ≡ l.shard;
  views : length l.views ≡ length l.fn.views;
  marks : length l.marks ≡ length l.fn.marks;
  count : length l.disks ≡ length l.fn.disks;
}
