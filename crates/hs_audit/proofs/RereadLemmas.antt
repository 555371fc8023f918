-- Reads of disks, one after another, and of one disk among several.
use Rattle.std.proofs.Common.{◌≡◌, ◌≢◌, ◌∙◌, ◌*◌, ◌<◌, ◌≤◌, inl, inr, ap, sym, subst, ℕ, List, Option, None, Some, length, map, refl, arith}
use Rattle.std.proofs.lemmas.Bool.{cases_eq}
use Rattle.std.proofs.lemmas.List.{get_or-set_other, get_or-set_same}
use Rattle.std.specs.Prelude.{IfSome, IsSome, slice_index_or, slice_set}
use Rattle.hs_audit.specs.Rereading.{AreReread, AreStill, AreViewsOf, IsReread, IsStill, viewing_at}
use Rattle.hs_limits.specs.declared.shape.Shape.{Shape}
use Rattle.hs_peerlog.specs.Images.{LeavesOnly}
use Rattle.hs_peerlog.specs.Opening.{refusal_in}
use Rattle.hs_peerlog.specs.Views.{HasView, Viewing}
use Rattle.hs_ports.specs.Disk.{Standing}
use Rattle.hs_ports.specs.Fault.{HasRisen}
use Rattle.hs_side.specs.Current.{list_in}
use Rattle.hs_side.specs.Standing.{HasBytes, HasRoom}
use Rattle.hs_taking.proofs.DiskLemmas.{seen_here, seen_is, seen_there}
use Rattle.hs_taking.proofs.PairLemmas.{viewed_still}
use Rattle.hs_taking.specs.Disks.{DiskSeen, seen_at}
use Rattle.hs_taking.specs.Viewed.{IsViewOf}

-- ---- one disk

pub risen_then : (a b c : ℕ) → HasRisen a b → b ≤ c → HasRisen a c
risen_then a b c h le = omega (arith, h, le)

module _ (tells : Type 0) where
  pub still_none : (a : DiskSeen) → IsStill tells a a
  still_none a = record { same = λ told. refl; size = λ side. refl; counted = omega arith }

  pub still_then : (a b c : DiskSeen) → IsStill tells a b → IsStill tells b c → IsStill tells a c
  still_then a b c one two = record {
    same = λ told. two.same told ∙ one.same told;
    size = λ side. two.size side ∙ one.size side;
    counted = let l = one.counted in let m = two.counted in omega (arith, l, m);
  }

  pub reread_none : (a : DiskSeen) (v : Option Viewing) → IsReread tells a a v v
  reread_none a v = inl (refl, refl)

  pub reread_then : (a b c : DiskSeen) (u v w : Option Viewing) → IsStill tells b c → IsReread tells a b u v → IsReread tells b c v w → IsReread tells a c u w
  reread_then a b c u v w still (inl one) (inl two) = inl (two.0 ∙ one.0, two.1 ∙ one.1)
  reread_then a b c u v w still (inl one) (inr two) = inr (two.0, λ told. subst (λ n. HasRisen n c.faults) one.1 (two.1 told))
  reread_then a b c u v w still (inr one) (inl two) = inr (two.0 ∙ one.0, λ told. subst (λ n. HasRisen a.faults n) (sym two.1) (one.1 told))
  reread_then a b c u v w still (inr one) (inr two) = inr (two.0, λ told. risen_then a.faults b.faults c.faults (one.1 told) still.counted)

  -- a view is of its disk still
  pub view_stays : (shape : Shape) (peer : ℕ) (a b : DiskSeen) (viewing : Viewing) → IsStill tells a b → IsViewOf tells shape peer a viewing → IsViewOf tells shape peer b viewing
  view_stays shape peer a b viewing still is = record {
    stands = record {
      room = subst (λ n. HasRoom viewing.log n) (sym (still.size viewing.log.side)) is.stands.room;
      told = λ told. subst (λ (s : Standing). HasBytes 0xa5 viewing.log (s.seen viewing.log.side) (s.loose viewing.log.side)) (sym (still.same told)) (is.stands.told told);
    };
    viewed = viewed_still tells viewing a b (record { same = still.same; size = still.size; counted = still.counted }) is.viewed;
    listed = λ told. subst (λ (s : Standing). IsSome (list_in s.seen)) (sym (still.same told)) (is.listed told);
    has = λ told list e. subst (λ (s : Standing). HasView viewing s.seen list) (sym (still.same told)) (is.has told list (ap (λ (s : Standing). list_in s.seen) (sym (still.same told)) ∙ e));
    accepted = λ told. ap (λ (s : Standing). refusal_in shape peer s.seen) (still.same told) ∙ is.accepted told;
    only = λ told list e. subst (λ (s : Standing). LeavesOnly s list) (sym (still.same told)) (is.only told list (ap (λ (s : Standing). list_in s.seen) (sym (still.same told)) ∙ e));
  }

  some_stays : (shape : Shape) (peer : ℕ) (a b : DiskSeen) (view : Option Viewing) → IsStill tells a b → IfSome view (IsViewOf tells shape peer a) → IfSome view (IsViewOf tells shape peer b)
  some_stays shape peer a b None still is = tt
  some_stays shape peer a b (Some viewing) still is = view_stays shape peer a b viewing still is

  -- ---- all of them

  pub all_still : (peers : ℕ) (disks : List DiskSeen) → AreStill tells peers disks disks
  all_still peers disks = λ peer low. still_none (seen_at disks peer)

  pub all_still_then : (peers : ℕ) (a b c : List DiskSeen) → AreStill tells peers a b → AreStill tells peers b c → AreStill tells peers a c
  all_still_then peers a b c one two = λ peer low. still_then (seen_at a peer) (seen_at b peer) (seen_at c peer) (one peer low) (two peer low)

  pub all_reread : (peers : ℕ) (disks : List DiskSeen) (views : List (Option Viewing)) → AreReread tells peers disks disks views views
  all_reread peers disks views = λ peer low. reread_none (seen_at disks peer) (viewing_at views peer)

  pub all_reread_then : (peers : ℕ) (a b c : List DiskSeen) (u v w : List (Option Viewing)) → AreStill tells peers b c → AreReread tells peers a b u v → AreReread tells peers b c v w → AreReread tells peers a c u w
  all_reread_then peers a b c u v w still one two =
      λ peer low. reread_then (seen_at a peer) (seen_at b peer) (seen_at c peer) (viewing_at u peer) (viewing_at v peer) (viewing_at w peer) (still peer low) (one peer low) (two peer low)

  pub views_stay : (shape : Shape) (a b : List DiskSeen) (u v : List (Option Viewing)) → AreStill tells (shape.shards * shape.copies) a b → AreReread tells (shape.shards * shape.copies) a b u v
      → AreViewsOf tells shape a u → AreViewsOf tells shape b v
  views_stay shape a b u v still reread views = λ peer low. go peer low (reread peer low)
    where
      go : (peer : ℕ) → peer < shape.shards * shape.copies → IsReread tells (seen_at a peer) (seen_at b peer) (viewing_at u peer) (viewing_at v peer) → IfSome (viewing_at v peer) (IsViewOf tells shape peer (seen_at b peer))
      go peer low (inl h) = subst (λ o. IfSome o (IsViewOf tells shape peer (seen_at b peer))) (sym h.0) (some_stays shape peer (seen_at a peer) (seen_at b peer) (viewing_at u peer) (still peer low) (views peer low))
      go peer low (inr h) = subst (λ o. IfSome o (IsViewOf tells shape peer (seen_at b peer))) (sym h.0) tt

  -- ---- one of them was read

  module _ {A : Type 0} (f : A → DiskSeen) (disks : List A) (i : ℕ) (x d : A) (low : i < length disks) where
    pub one_still : IsStill tells (f (slice_index_or disks i d)) (f x) → (peers : ℕ) → AreStill tells peers (map f disks) (map f (slice_set disks i x))
    one_still still peers = λ peer less. elim (cases_eq peer i) [
      | inl same ↦ subst (λ p. IsStill tells (seen_at (map f disks) p) (seen_at (map f (slice_set disks i x)) p)) (sym same)
          (subst (λ (s : DiskSeen). IsStill tells (seen_at (map f disks) i) s) (sym (seen_here f disks i x low)) (subst (λ (s : DiskSeen). IsStill tells s (f x)) (sym (seen_is f disks i d low)) still))
      | inr differs ↦ subst (λ (s : DiskSeen). IsStill tells (seen_at (map f disks) peer) s) (sym (seen_there f disks i peer x differs)) (still_none (seen_at (map f disks) peer))
    ]

    pub one_reread : (u v : List (Option Viewing)) → IsReread tells (f (slice_index_or disks i d)) (f x) (viewing_at u i) (viewing_at v i) → ((peer : ℕ) → peer ≢ i → viewing_at v peer ≡ viewing_at u peer)
        → (peers : ℕ) → AreReread tells peers (map f disks) (map f (slice_set disks i x)) u v
    one_reread u v here others peers = λ peer less. elim (cases_eq peer i) [
      | inl same ↦ subst (λ p. IsReread tells (seen_at (map f disks) p) (seen_at (map f (slice_set disks i x)) p) (viewing_at u p) (viewing_at v p)) (sym same)
          (subst (λ (s : DiskSeen). IsReread tells (seen_at (map f disks) i) s (viewing_at u i) (viewing_at v i)) (sym (seen_here f disks i x low))
          (subst (λ (s : DiskSeen). IsReread tells s (f x) (viewing_at u i) (viewing_at v i)) (sym (seen_is f disks i d low)) here))
      | inr differs ↦ inl (others peer differs, ap (λ (s : DiskSeen). s.faults) (seen_there f disks i peer x differs))
    ]

-- ---- one view was given up

pub given_up_here : (views : List (Option Viewing)) (i : ℕ) → i < length views → viewing_at (slice_set views i None) i ≡ None
given_up_here views i low = get_or-set_same views i None None low

pub given_up_there : (views : List (Option Viewing)) (i peer : ℕ) → peer ≢ i → viewing_at (slice_set views i None) peer ≡ viewing_at views peer
given_up_there views i peer differs = get_or-set_other views i peer None None differs
