use Rattle.std.proofs.Common.{◌≡◌, ◌≤◌, length, map}
use Rattle.hs_scrub.specs.Steps.{AreLooked}
use Rattle.hs_taking.proofs.ViewLemmas.{AreRead}
use Rattle.hs_taking.specs.Disks.{seen_as}
use Rattle.hs_scrub.proofs.look.look_at_all.Given as goal

-- the first disks were read, and no other
abbrev pub invariant-loop-peer : goal.invariant-loop-peer
invariant-loop-peer g l = record {
  read : AreRead g.D.Disk.tells l.fn.watch l.watch (map (λ disk. seen_as (g.D.Disk.size disk) (g.D.Disk.stands disk) (g.D.Disk.faults disk)) l.fn.disks) (map (λ disk. seen_as (g.D.Disk.size disk) (g.D.Disk.stands disk) (g.D.Disk.faults disk)) l.disks) l.peer (length l.fn.disks);
  looked : AreLooked g.D.Disk.tells l.fn.shape (map (λ disk. seen_as (g.D.Disk.size disk) (g.D.Disk.stands disk) (g.D.Disk.faults disk)) l.fn.disks) (map (λ disk. seen_as (g.D.Disk.size disk) (g.D.Disk.stands disk) (g.D.Disk.faults disk)) l.disks) l.views.items l.marks.items l.peer;
  views : length l.views.items ≡ l.peer;
  marks : length l.marks.items ≡ l.peer;
  count : length l.disks ≡ length l.fn.disks;
  ticks : l.fn.watch ≤ l.watch;
}
