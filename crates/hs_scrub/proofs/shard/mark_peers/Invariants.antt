use Rattle.std.proofs.Common.{◌≡◌, ◌≤◌, length, map}
use Rattle.hs_scrub.specs.Steps.{Goes}
use Rattle.hs_taking.specs.Disks.{seen_as}
use Rattle.hs_scrub.proofs.shard.mark_peers.Given as goal

-- the first ones are marked by the taken log, which is there still
abbrev pub invariant-loop-place : goal.invariant-loop-place
invariant-loop-place g l = record {
  goes : Goes g.D.Disk.tells l.from l.place l.to l.taken (record { disks = map (λ disk. seen_as (g.D.Disk.size disk) (g.D.Disk.stands disk) (g.D.Disk.faults disk)) l.fn.disks; views = l.fn.views; marks = l.fn.marks }) (record { disks = map (λ disk. seen_as (g.D.Disk.size disk) (g.D.Disk.stands disk) (g.D.Disk.faults disk)) l.disks; views = l.views; marks = l.marks });
  from : l.from ≤ l.place;
  views : length l.views ≡ length l.fn.views;
  marks : length l.marks ≡ length l.fn.marks;
  count : length l.disks ≡ length l.fn.disks;
}
