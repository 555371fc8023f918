-- So far the views are of their disks, and so many of the shard's were given up.
use Rattle.std.proofs.Common.{◌≡◌, ◌*◌, ◌+◌, ◌<◌, ◌≤◌, ◌⊎◌, ℕ, is_some, length, map}
use Rattle.hs_audit.proofs.TriesLemmas.{count_from}
use Rattle.hs_audit.specs.Rereading.{AreReread, AreStill, AreViewsOf, viewing_at}
use Rattle.hs_limits.specs.Shape.{peer_of}
use Rattle.hs_taking.specs.Disks.{seen_as}
use Rattle.hs_audit.proofs.reading.take_shard.Given as goal

abbrev pub invariant-loop-attempt : goal.invariant-loop-attempt
invariant-loop-attempt g l = record {
  views : AreViewsOf g.D.Disk.tells l.fn.shape (map (λ disk. seen_as (g.D.Disk.size disk) (g.D.Disk.stands disk) (g.D.Disk.faults disk)) l.disks) l.views;
  still : AreStill g.D.Disk.tells (l.fn.shape.shards * l.fn.shape.copies)
      (map (λ disk. seen_as (g.D.Disk.size disk) (g.D.Disk.stands disk) (g.D.Disk.faults disk)) l.fn.disks) (map (λ disk. seen_as (g.D.Disk.size disk) (g.D.Disk.stands disk) (g.D.Disk.faults disk)) l.disks);
  reread : AreReread g.D.Disk.tells (l.fn.shape.shards * l.fn.shape.copies)
      (map (λ disk. seen_as (g.D.Disk.size disk) (g.D.Disk.stands disk) (g.D.Disk.faults disk)) l.fn.disks) (map (λ disk. seen_as (g.D.Disk.size disk) (g.D.Disk.stands disk) (g.D.Disk.faults disk)) l.disks) l.fn.views l.views;
  others : (peer : ℕ) → (peer < peer_of l.fn.shape l.shard 0) ⊎ (peer_of l.fn.shape l.shard l.fn.shape.copies ≤ peer) → viewing_at l.views peer ≡ viewing_at l.fn.views peer;
  left : count_from (λ peer. is_some (viewing_at l.views peer)) (peer_of l.fn.shape l.shard 0) l.fn.shape.copies + l._attempt ≤ l.fn.shape.copies;
  same_views : length l.views ≡ length l.fn.views;
  same_count : length l.disks ≡ length l.fn.disks;
}
