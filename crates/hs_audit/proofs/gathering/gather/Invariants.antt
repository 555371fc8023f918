-- So far the first shards were gathered, and the views are of their disks.
use Rattle.std.proofs.Common.{◌≡◌, ◌*◌, length, map}
use Rattle.hs_audit.specs.Rereading.{AreReread, AreStill, AreViewsOf, IsGathered}
use Rattle.hs_limits.specs.Limits.{greatest_limits}
use Rattle.hs_model.specs.Plain.{IsPlain}
use Rattle.hs_taking.specs.Disks.{seen_as}
use Rattle.hs_audit.proofs.gathering.gather.Given as goal

abbrev pub invariant-loop-shard : goal.invariant-loop-shard
invariant-loop-shard g l = record {
  gathered : IsGathered g.D.Disk.tells (record { name = g.A.Addresser.name l.fn.naming; limits = greatest_limits; shape = l.fn.shape })
      (map (λ disk. seen_as (g.D.Disk.size disk) (g.D.Disk.stands disk) (g.D.Disk.faults disk)) l.fn.disks) l.views l.shard l.store;
  plain : IsPlain l.store;
  shape : l.store.shape ≡ l.fn.shape;
  views : AreViewsOf g.D.Disk.tells l.fn.shape (map (λ disk. seen_as (g.D.Disk.size disk) (g.D.Disk.stands disk) (g.D.Disk.faults disk)) l.disks) l.views;
  still : AreStill g.D.Disk.tells (l.fn.shape.shards * l.fn.shape.copies)
      (map (λ disk. seen_as (g.D.Disk.size disk) (g.D.Disk.stands disk) (g.D.Disk.faults disk)) l.fn.disks) (map (λ disk. seen_as (g.D.Disk.size disk) (g.D.Disk.stands disk) (g.D.Disk.faults disk)) l.disks);
  reread : AreReread g.D.Disk.tells (l.fn.shape.shards * l.fn.shape.copies)
      (map (λ disk. seen_as (g.D.Disk.size disk) (g.D.Disk.stands disk) (g.D.Disk.faults disk)) l.fn.disks) (map (λ disk. seen_as (g.D.Disk.size disk) (g.D.Disk.stands disk) (g.D.Disk.faults disk)) l.disks) l.fn.views l.views;
  same_views : length l.views ≡ length l.fn.views;
  same_count : length l.disks ≡ length l.fn.disks;
}
