use Rattle.std.proofs.Common.{◌≡◌, ◌≤◌, length, map}
use Rattle.std.specs.Prelude.{Ok}
use Rattle.hs_asker.specs.Driven.{DrivesOn}
use Rattle.hs_asker.specs.Going.{point_of}
use Rattle.hs_cluster.specs.Disks.{seen_as}
use Rattle.hs_run.specs.Between.{IsReadyAt}
use Rattle.hs_asker.proofs.work.Work.settle_until.Given as goal

abbrev pub invariant-loop-step : goal.invariant-loop-step
invariant-loop-step g l = record {
  drives : DrivesOn g.D.Disk.tells (g.A.Addresser.name l.naming)
      (point_of l.fn.self.watch l.fn.self.cluster (map (λ disk. seen_as (g.D.Disk.size disk) (g.D.Disk.stands disk) (g.D.Disk.faults disk)) l.fn.self.disks.items) l.fn.self.line)
      (point_of l.self.watch l.self.cluster (map (λ disk. seen_as (g.D.Disk.size disk) (g.D.Disk.stands disk) (g.D.Disk.faults disk)) l.self.disks.items) l.self.line)
      (map (λ said. said.value) l.fn.self.said.items) (map (λ said. said.value) l.self.said.items) (Ok tt);
  ready : IsReadyAt g.D.Disk.tells (point_of l.self.watch l.self.cluster (map (λ disk. seen_as (g.D.Disk.size disk) (g.D.Disk.stands disk) (g.D.Disk.faults disk)) l.self.disks.items) l.self.line);
  some : l.from ≤ length l.self.cluster.core.journal;
  count : length l.self.disks.items ≡ length l.fn.self.disks.items;
  ended : l.self.ended ≡ l.fn.self.ended;
}
