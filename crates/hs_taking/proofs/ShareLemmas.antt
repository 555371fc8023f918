-- Calls on one disk, from an earlier moment on, and as it is seen later.
use Rattle.std.proofs.Common.{ℕ, ◌≤◌, refl, arith}
use Rattle.hs_peerlog.proofs.ImageLemmas.{Since}
use Rattle.hs_peerlog.proofs.StayLemmas.{then-each}
use Rattle.hs_peerlog.specs.Images.{Is, LeavesAll}
use Rattle.hs_ports.specs.Disk.{Standing}
use Rattle.hs_taking.proofs.PastLemmas.{past_still, past_then, past_wait}
use Rattle.hs_taking.specs.Disks.{DiskSeen}
use Rattle.hs_taking.specs.Shares.{KeepsDisk}

-- no call changed it
pub quiet : (before mid : ℕ) (disk : Standing) → before ≤ mid → disk.last ≤ before → Since disk → LeavesAll before mid disk disk
quiet before mid disk up last since = record {
  later = up;
  last = omega (arith, last, up);
  earlier = λ side m low fits. refl;
  each = λ side m high fits c image. rw (since side m (omega (arith, last, high))) at image;
  standing = λ side c image. image;
}

pub keeps_before : (tells : Type 0) (before mid now : ℕ) (old new : DiskSeen) → before ≤ mid → (tells → Since old.stands) → KeepsDisk tells mid now old new → KeepsDisk tells before now old new
keeps_before tells before mid now old new up since keeps = record {
  moments = λ told last list leaves. then-each list (Is list) (keeps.moments told (omega (arith, last, up)) list leaves) (quiet before mid old.stands up last (since told)) leaves refl;
  past = λ told last. past_then before mid now old.stands old.stands new.stands (past_still before mid old.stands up last) (keeps.past told (omega (arith, last, up)));
  counted = keeps.counted;
}

pub keeps_wait : (tells : Type 0) (before mid now : ℕ) (old new : DiskSeen) → mid ≤ now → KeepsDisk tells before mid old new → KeepsDisk tells before now old new
keeps_wait tells before mid now old new up keeps = record {
  moments = λ told last list leaves. let e = keeps.moments told last list leaves in record {
    later = omega (arith, e.later, up);
    last = omega (arith, e.last, up);
    earlier = e.earlier;
    each = e.each;
    standing = e.standing;
  };
  past = λ told last. past_wait before mid now old.stands new.stands up (keeps.past told last);
  counted = keeps.counted;
}
