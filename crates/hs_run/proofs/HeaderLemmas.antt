-- Whose header a stop leaves on the disks that a run was handed.
use Rattle.std.proofs.Common.{◌≡◌, ap, sym, subst, ℕ, ◌<◌, ◌≤◌, List, length, arith}
use Rattle.std.proofs.lemmas.List.{length-map}
use Rattle.hs_cluster.proofs.HeadLemmas.{header_shown}
use Rattle.hs_cluster.specs.Disks.{DiskSeen, seen_at, stands_of}
use Rattle.hs_cluster.specs.Headed.{IsOwnAt, LeavesItsHeader}
use Rattle.hs_limits.specs.declared.shape.Shape.{Shape}
use Rattle.hs_peerlog.specs.Heads.{LeavesHeader}
use Rattle.hs_ports.specs.Disk.{IsImage, Standing}
use Rattle.hs_ports.specs.Moments.{disk_at}
use Rattle.hs_promise.specs.Headers.{IsOwnAtEntry, KeepsHeaders}
use Rattle.hs_promise.specs.Run.{Ran, Script}
use Rattle.hs_side.specs.Headers.{own_header}
use Rattle.hs_taking.specs.Headed.{KeepsHeads, KeepsItsHeader}
use Rattle.hs_run.proofs.DisksLemmas.{stands_at}
use Rattle.hs_run.specs.Machine.{AreHanded}

-- calls that keep it, of disks as a cluster sees them
pub header_kept : (tells : Type 0) (shape : Shape) (before now : ℕ) (disks left : List DiskSeen) (peer : ℕ) → tells → (peer < length disks → KeepsItsHeader tells (own_header shape peer) before now (seen_at disks peer) (seen_at left peer)) → IsOwnAt shape before disks peer
    → LeavesItsHeader (own_header shape peer) before now (disk_at (stands_of disks) peer) (disk_at (stands_of left) peer)
header_kept tells shape before now disks left peer told keeps own =
    header_shown (own_header shape peer) before now (disk_at (stands_of disks) peer) (disk_at (stands_of left) peer)
    (subst (λ (d : Standing). KeepsHeads (own_header shape peer) before now d (disk_at (stands_of left) peer)) (sym (stands_at disks peer))
    (subst (λ (d : Standing). KeepsHeads (own_header shape peer) before now (seen_at disks peer).stands d) (sym (stands_at left peer))
    (keeps own.within told (subst (λ (d : Standing). d.last ≤ before) (stands_at disks peer) own.called) (subst (λ (d : Standing). LeavesHeader d (own_header shape peer)) (stands_at disks peer) own.leaves))))

module _ (S : Script) (r : Ran) (before now : ℕ) (disks left : List DiskSeen) (was : AreHanded r.old disks) (is : AreHanded r.new left) (start : before ≡ r.old.moment) (end : now ≡ r.new.moment)
    (leaves : (peer : ℕ) → IsOwnAt S.set.shape before disks peer → LeavesItsHeader (own_header S.set.shape peer) before now (disk_at (stands_of disks) peer) (disk_at (stands_of left) peer)) where
  at_entry : (peer : ℕ) → IsOwnAtEntry S r peer → IsOwnAt S.set.shape before disks peer
  at_entry peer own = record {
    within = let low = own.within in let many = ap (λ (ds : List Standing). length ds) was.stands in let same = length-map disks (λ (d : DiskSeen). d.stands) in omega (arith, low, many, same);
    called = let low = own.called in let same = ap (λ (ds : List Standing). (disk_at ds peer).last) was.stands in omega (arith, low, same, start);
    leaves = λ image stands. record { one = (own.leaves image (λ side. subst (λ (ds : List Standing). IsImage ((disk_at ds peer).loose side) (image side)) was.stands (stands.sides side))).one };
  }

  pub headers_kept : KeepsHeaders S r
  headers_kept = record {
    each = λ m peer during own image here.
        let above : before < m = let low = during.above in omega (arith, low, start) in
        let up : m ≤ now = let high = during.up_to in omega (arith, high, end) in
        record { one = ((leaves peer (at_entry peer own)).each m above up during.early image (λ side. subst (λ (ds : List Standing). IsImage ((disk_at ds peer).past m side) (image side)) (sym is.stands) (here.sides side))).one };
    behind = λ peer own image stands.
        record { one = ((leaves peer (at_entry peer own)).leaves image (record { sides = λ side. subst (λ (ds : List Standing). IsImage ((disk_at ds peer).loose side) (image side)) (sym is.stands) (stands side) })).one };
  }
