use Rattle.std.proofs.Common.{◌≡◌, ◌≤◌, ◌-◌, length, map}
use Rattle.hs_scrub.proofs.ShardLemmas.{Rounds}
use Rattle.hs_taking.specs.Disks.{seen_as}
use Rattle.hs_scrub.proofs.shard.mark_shard.Given as goal

-- each round lost a log
abbrev pub invariant-loop-round : goal.invariant-loop-round
invariant-loop-round g l = record {
  rounds : Rounds g.D.Disk.tells l.from l.to (l._round - l.from) (record { disks = map (λ disk. seen_as (g.D.Disk.size disk) (g.D.Disk.stands disk) (g.D.Disk.faults disk)) l.fn.disks; views = l.fn.views; marks = l.fn.marks }) (record { disks = map (λ disk. seen_as (g.D.Disk.size disk) (g.D.Disk.stands disk) (g.D.Disk.faults disk)) l.disks; views = l.views; marks = l.marks });
  from : l.from ≤ l._round;
  views : length l.views ≡ length l.fn.views;
  marks : length l.marks ≡ length l.fn.marks;
  count : length l.disks ≡ length l.fn.disks;
}
