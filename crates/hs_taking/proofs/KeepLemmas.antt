-- Calls that leave the list of a disk as it is, one after another, and on one disk of several.
use Rattle.std.proofs.Common.{◌∙◌, ap, subst, ℕ, ◌≤◌, Some, refl, arith, inl, inr}
use Rattle.std.proofs.lemmas.Bool.{cases_lt}
use Rattle.hs_fold.specs.Shards.Setting.{Numbered}
use Rattle.hs_peerlog.proofs.ImageLemmas.{Since}
use Rattle.hs_peerlog.proofs.StayLemmas.{all-each, stays}
use Rattle.hs_peerlog.specs.Images.{Is}
use Rattle.hs_ports.specs.Disk.{IsImage}
use Rattle.hs_taking.proofs.PastLemmas.{past_all, past_still, past_then, past_wait}
use Rattle.hs_taking.specs.Disks.{DiskSeen}
use Rattle.hs_taking.specs.Shares.{KeepsDisk}
use Rattle.hs_taking.specs.Viewed.{IsOnlyRead}

-- nothing was called
pub keeps_none : (tells : Type 0) (now : ℕ) (disk : DiskSeen) → (tells → Since disk.stands) → KeepsDisk tells now now disk disk
keeps_none tells now disk since = record {
  moments = λ told last list leaves. stays disk.stands now list (Is list) last (since told) leaves refl;
  past = λ told last. past_still now now disk.stands (omega arith) last;
  counted = omega arith;
}

-- it was only read
pub keeps_read : (tells : Type 0) (before now : ℕ) (a b : DiskSeen) → IsOnlyRead tells before now a b → KeepsDisk tells before now a b
keeps_read tells before now a b read = record {
  moments = λ told last list leaves. all-each list (Is list) (read.moments told last) leaves refl;
  past = λ told last. past_all before now a.stands b.stands (read.moments told last);
  counted = read.counted;
}

-- and then some calls
pub keeps_then : (tells : Type 0) (before mid now : ℕ) (a b c : DiskSeen) → KeepsDisk tells before mid a b → KeepsDisk tells mid now b c → KeepsDisk tells before now a c
keeps_then tells before mid now a b c first second = record {
  moments = λ told last list leaves.
      let one = first.moments told last list leaves in
      let two = second.moments told one.last list (λ image stands. let g = one.standing image stands in g.read ∙ ap (λ (l : Numbered). Some l) g.holds) in
      record {
        later = let l = one.later in let m = two.later in omega (arith, l, m);
        last = two.last;
        earlier = λ side m low fits. two.earlier side m (let l = one.later in omega (arith, low, l)) fits ∙ one.earlier side m low fits;
        each = λ m high fits image left. elim (cases_lt mid m) [
          | inl above ↦ two.each m above fits image left
          | inr le ↦ one.each m high fits image (λ side. subst (λ l. IsImage l (image side)) (two.earlier side m le fits) (left side))
        ];
        standing = two.standing;
      };
  past = λ told last. let one = first.past told last in past_then before mid now a.stands b.stands c.stands one (second.past told one.last);
  counted = let l = first.counted in let m = second.counted in omega (arith, l, m);
}

-- and time went on
pub keeps_wait : (tells : Type 0) (before mid now : ℕ) (a b : DiskSeen) → mid ≤ now → KeepsDisk tells before mid a b → KeepsDisk tells before now a b
keeps_wait tells before mid now a b up so_far = record {
  moments = λ told last list leaves.
      let one = so_far.moments told last list leaves in
      record {
        later = let l = one.later in omega (arith, l, up);
        last = let l = one.last in omega (arith, l, up);
        earlier = one.earlier;
        each = one.each;
        standing = one.standing;
      };
  past = λ told last. past_wait before mid now a.stands b.stands up (so_far.past told last);
  counted = so_far.counted;
}
