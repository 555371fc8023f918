-- Reads of disks that stand.
use Rattle.std.proofs.Common.{◌≡◌, ◌≢◌, ◌∙◌, inl, inr, ap, sym, subst, ℕ, ◌<◌, ◌≤◌, List, map, length, refl, arith}
use Rattle.std.proofs.lemmas.Bool.{cases_eq}
use Rattle.std.specs.Prelude.{Err, IfErr, Ok, OnOk, Result, slice_index_or, slice_set}
use Rattle.hs_entry.specs.declared.entry.Entry.{Entry}
use Rattle.hs_peerlog.specs.Caused.{IsCalm}
use Rattle.hs_peerlog.specs.declared.fault.LogFault.{LogFault}
use Rattle.hs_peerlog.specs.declared.fault.LogFault.TheVariants as log
use Rattle.hs_peerlog.specs.Views.{HasView, Viewing}
use Rattle.hs_ports.specs.Disk.{Standing}
use Rattle.hs_ports.specs.Fault.{IsCausedBy}
use Rattle.hs_scrub.proofs.LookLemmas.{each_set}
use Rattle.hs_scrub.specs.Steps.{AreCalled, AreStill, Counts, IsLostBy, IsStill}
use Rattle.hs_side.specs.Standing.{HasBytes, HasRoom, SideState, Stands}
use Rattle.hs_taking.proofs.DiskLemmas.{seen_here, seen_is}
use Rattle.hs_taking.specs.Disks.{DiskSeen, seen_at}

-- ---- one disk

pub still_none : (tells : Type 0) (disk : DiskSeen) → IsStill tells disk disk
still_none tells disk = record { size = λ side. refl; stands = λ told. refl }

pub still_then : (tells : Type 0) (a b c : DiskSeen) → IsStill tells a b → IsStill tells b c → IsStill tells a c
still_then tells a b c one two = record { size = λ side. two.size side ∙ one.size side; stands = λ told. two.stands told ∙ one.stands told }

pub stands_still : (tells : Type 0) (log : SideState) (old new : DiskSeen) → IsStill tells old new → Stands tells log (old.size log.side) old.stands → Stands tells log (new.size log.side) new.stands
stands_still tells log old new still stands = record {
  room = subst (λ n. HasRoom log n) (sym (still.size log.side)) stands.room;
  told = λ told. subst (λ (d : Standing). HasBytes 0xa5 log (d.seen log.side) (d.loose log.side)) (sym (still.stands told)) (stands.told told);
}

-- ---- each of some

pub calm_none : (tells : Type 0) (disks : List DiskSeen) → AreStill tells disks disks
calm_none tells disks = record { still = λ peer. still_none tells (seen_at disks peer); calm = λ peer. refl }

pub calm_then : (tells : Type 0) (a b c : List DiskSeen) → AreStill tells a b → AreStill tells b c → AreStill tells a c
calm_then tells a b c one two = record {
  still = λ peer. still_then tells (seen_at a peer) (seen_at b peer) (seen_at c peer) (one.still peer) (two.still peer);
  calm = λ peer. two.calm peer ∙ one.calm peer;
}

pub lost_then : (tells : Type 0) (a b c : List DiskSeen) (lost : ℕ) (fault : LogFault) → AreStill tells a b → IsLostBy tells b c lost fault → IsLostBy tells a c lost fault
lost_then tells a b c lost fault one two = record {
  still = λ peer. still_then tells (seen_at a peer) (seen_at b peer) (seen_at c peer) (one.still peer) (two.still peer);
  calm = λ peer differs. two.calm peer differs ∙ one.calm peer;
  counted = let e = one.calm lost in let k = two.counted in omega (arith, e, k);
  counts = subst (λ n. Counts n (seen_at c lost).faults fault) (one.calm lost) two.counts;
}

pub still_called : (tells : Type 0) (a b : List DiskSeen) → AreStill tells a b → AreCalled tells a b
still_called tells a b one = record { still = one.still; counted = λ peer. let e = one.calm peer in omega (arith, e) }

-- what a count says of a fault
abbrev refused : {T : Type 0} → LogFault → Result T LogFault
refused fault = Err fault

pub counts_of : {T : Type 0} (before now : ℕ) (fault : LogFault) → IsCalm before now (refused {T = T} fault) → IsCausedBy log.Disk before now (refused {T = T} fault) → Counts before now fault
counts_of before now (log.NotALog at) calm cause = calm
counts_of before now (log.WrongShape found) calm cause = calm
counts_of before now log.Disk calm cause = cause.failed refl
counts_of before now log.NoMemory calm cause = cause.later

-- ---- one read

module _ {A : Type 0} (f : A → DiskSeen) (tells : Type 0) (disks : List A) (i : ℕ) (x d : A) (low : i < length disks) (one : IsStill tells (f (slice_index_or disks i d)) (f x)) where
  was : f (slice_index_or disks i d) ≡ seen_at (map f disks) i
  was = sym (seen_is f disks i d low)

  read_still : (peer : ℕ) → IsStill tells (seen_at (map f disks) peer) (seen_at (map f (slice_set disks i x)) peer)
  read_still peer = each_set f disks i x low (λ p (s : DiskSeen). IsStill tells (seen_at (map f disks) p) s) peer
      (λ differs. still_none tells (seen_at (map f disks) peer)) (λ same. subst (λ (s : DiskSeen). IsStill tells s (f x)) was one)

  pub read_calm : (f x).faults ≡ (f (slice_index_or disks i d)).faults → AreStill tells (map f disks) (map f (slice_set disks i x))
  read_calm calm = record {
    still = read_still;
    calm = λ peer. each_set f disks i x low (λ p (s : DiskSeen). s.faults ≡ (seen_at (map f disks) p).faults) peer (λ differs. refl) (λ same. calm ∙ ap (λ (s : DiskSeen). s.faults) was);
  }

  pub read_lost : (fault : LogFault) → (f (slice_index_or disks i d)).faults ≤ (f x).faults → Counts (f (slice_index_or disks i d)).faults (f x).faults fault → IsLostBy tells (map f disks) (map f (slice_set disks i x)) i fault
  read_lost fault up counts = record {
    still = read_still;
    calm = λ peer differs. each_set f disks i x low (λ p (s : DiskSeen). (p ≢ i) → s.faults ≡ (seen_at (map f disks) p).faults) peer (λ k n. refl) (λ same n. absurd (n refl)) differs;
    counted = let a = ap (λ (s : DiskSeen). s.faults) was in let b = ap (λ (s : DiskSeen). s.faults) (seen_here f disks i x low) in omega (arith, a, b, up);
    counts = subst (λ (s : DiskSeen). Counts (seen_at (map f disks) i).faults s.faults fault) (sym (seen_here f disks i x low)) (subst (λ (s : DiskSeen). Counts s.faults (f x).faults fault) was counts);
  }

  pub read_ok : {T : Type 0} (result : Result T LogFault) → IsCalm (f (slice_index_or disks i d)).faults (f x).faults result → OnOk result (AreStill tells (map f disks) (map f (slice_set disks i x)))
  read_ok (Ok value) calm = read_calm calm
  read_ok (Err fault) calm = tt

  pub read_err : {T : Type 0} (result : Result T LogFault) → IsCalm (f (slice_index_or disks i d)).faults (f x).faults result → IsCausedBy log.Disk (f (slice_index_or disks i d)).faults (f x).faults result
      → IfErr result (IsLostBy tells (map f disks) (map f (slice_set disks i x)) i)
  read_err (Ok value) calm cause = tt
  read_err {T = T} (Err fault) calm cause = read_lost fault cause.later (counts_of {T = T} (f (slice_index_or disks i d)).faults (f x).faults fault calm cause)

pub lost_called : (tells : Type 0) (a b : List DiskSeen) (lost : ℕ) (fault : LogFault) → IsLostBy tells a b lost fault → AreCalled tells a b
lost_called tells a b lost fault one = record {
  still = one.still;
  counted = λ peer. elim (cases_eq peer lost) [
    | inl same ↦ subst (λ p. (seen_at a p).faults ≤ (seen_at b p).faults) (sym same) one.counted
    | inr differs ↦ let e = one.calm peer differs in omega (arith, e)
  ];
}

pub has_still : (tells : Type 0) (a b : DiskSeen) (view : Viewing) (list : List (ℕ × Entry)) → IsStill tells a b → tells → HasView view a.stands.seen list → HasView view b.stands.seen list
has_still tells a b view list still told has = subst (λ (d : Standing). HasView view d.seen list) (sym (still.stands told)) has
