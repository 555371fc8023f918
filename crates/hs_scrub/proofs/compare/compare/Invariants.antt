use Rattle.std.proofs.Common.{◌≡◌, ℕ, List, length, map}
use Rattle.hs_entry.specs.declared.entry.Entry.{Entry}
use Rattle.hs_peerlog.specs.Views.{HasView}
use Rattle.hs_scrub.proofs.MarkLemmas.{Agree}
use Rattle.hs_scrub.specs.Steps.{AreStill}
use Rattle.hs_taking.specs.Disks.{seen_as, seen_at}
use Rattle.hs_scrub.proofs.compare.compare.Given as goal

-- the two agree so far, and each disk stands as it did
abbrev pub invariant-entries : goal.invariant-entries
invariant-entries g l = record {
  still : AreStill g.D.Disk.tells (map (λ disk. seen_as (g.D.Disk.size disk) (g.D.Disk.stands disk) (g.D.Disk.faults disk)) l.fn.disks) (map (λ disk. seen_as (g.D.Disk.size disk) (g.D.Disk.stands disk) (g.D.Disk.faults disk)) l.disks);
  count : length l.disks ≡ length l.fn.disks;
  agree : g.D.Disk.tells → (whole list : List (ℕ × Entry)) → HasView l.taken (seen_at (map (λ disk. seen_as (g.D.Disk.size disk) (g.D.Disk.stands disk) (g.D.Disk.faults disk)) l.fn.disks) l.from).stands.seen whole
      → HasView l.own (seen_at (map (λ disk. seen_as (g.D.Disk.size disk) (g.D.Disk.stands disk) (g.D.Disk.faults disk)) l.fn.disks) l.place).stands.seen list → Agree whole list l.index;
}
