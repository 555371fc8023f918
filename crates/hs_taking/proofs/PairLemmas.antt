-- Two disks of several: disks that were only read, and lists that are compared entry by entry.
use Rattle.std.proofs.Common.{◌≡◌, ◌≢◌, ◌∙◌, ap, sym, subst, inl, inr, ℕ, zero, suc, ◌+◌, ◌<◌, ◌==◌, ◌&&◌, not, Bool, true, false, List, [], ◌∷◌, ◌++◌, take, length, map, Option, Some, None, refl, arith}
use Rattle.std.proofs.lemmas.Bool.Decides.{eqb_tells}
use Rattle.std.proofs.lemmas.List.{length-set}
use Rattle.std.specs.Prelude.{Ok, slice_index_or, slice_set}
use Rattle.hs_entry.specs.declared.entry.Entry.{Entry}
use Rattle.hs_entry.specs.Entries.{rank_of}
use Rattle.hs_fold.specs.Shards.Setting.{Numbered}
use Rattle.hs_peerlog.specs.Lists.{IsNumbered, numbered_entry}
use Rattle.hs_peerlog.specs.Views.{HasSomeView, HasView, IsAsViewed, Viewing}
use Rattle.hs_ports.specs.Disk.{Standing}
use Rattle.hs_peerlog.specs.Images.{IsAlone}
use Rattle.hs_side.specs.Standing.{HasBytes, HasRoom}
use Rattle.hs_taking.proofs.LoadLemmas.{count_is, next_is, none_past, take_all_of}
use Rattle.hs_taking.proofs.DiskLemmas.{seen_here, seen_is, seen_there}
use Rattle.hs_taking.specs.Disks.{DiskSeen, seen_at}
use Rattle.hs_taking.specs.Pairs.{HasCompared, IsStill}

-- ---- a disk that was only read

pub still_none : (tells : Type 0) (disk : DiskSeen) → IsStill tells disk disk
still_none tells disk = record { same = λ told. refl; size = λ side. refl; counted = omega arith }

pub still_then : (tells : Type 0) (a b c : DiskSeen) → IsStill tells a b → IsStill tells b c → IsStill tells a c
still_then tells a b c one two = record {
  same = λ told. two.same told ∙ one.same told;
  size = λ side. two.size side ∙ one.size side;
  counted = omega (arith, one.counted, two.counted);
}

pub viewed_still : (tells : Type 0) (view : Viewing) (a b : DiskSeen) → IsStill tells a b → IsAsViewed tells view (a.size view.log.side) a.stands → IsAsViewed tells view (b.size view.log.side) b.stands
viewed_still tells view a b still viewed = record {
  stands = record {
    room = subst (λ n. HasRoom view.log n) (sym (still.size view.log.side)) viewed.stands.room;
    told = λ told. subst (λ (d : Standing). HasBytes 0xa5 view.log (d.seen view.log.side) (d.loose view.log.side)) (sym (still.same told)) (viewed.stands.told told);
  };
  rests = viewed.rests;
  counted = viewed.counted;
  empty = viewed.empty;
  alone = λ told. subst (λ (d : Standing). IsAlone view.log.side d) (sym (still.same told)) (viewed.alone told);
  told = λ told. subst (λ (d : Standing). HasSomeView view d.seen) (sym (still.same told)) (viewed.told told);
}

-- ---- lists that have the same entries

-- ranks that are the same
pub number_same : (v w n m : ℕ) (other : Bool) → other ≡ not ((v == w) && (n == m)) → other ≡ false → n ≡ m
number_same v w n m other is off = go (v == w) (n == m) refl (sym is ∙ off)
  where
    go : (b d : Bool) → (n == m) ≡ d → not (b && d) ≡ false → n ≡ m
    go true true e h = same e
      where
        same : (n == m) ≡ true → n ≡ m
        same e = elim (eqb_tells n m) [ inl both ↦ both.1 | inr both ↦ cc (sym both.0 ∙ e) ]
    go true false e h = cc h
    go false d e h = cc h

-- one entry more
pub same_more : (own whole : Numbered) (i : ℕ) → IsNumbered own → IsNumbered whole → numbered_entry own (i + 1) ≡ numbered_entry whole (i + 1) → take i own ≡ take i whole → take (i + 1) own ≡ take (i + 1) whole
same_more own whole i a b same so_far = go (numbered_entry whole (i + 1)) refl
  where
    go : (e : Option Entry) → numbered_entry whole (i + 1) ≡ e → take (i + 1) own ≡ take (i + 1) whole
    go (Some entry) is = next_is own i entry a (same ∙ is) ∙ ap (λ (xs : Numbered). xs ++ (i + 1, entry) ∷ []) so_far ∙ sym (next_is whole i entry b is)
    go None is =
        let lo = none_past own i a (same ∙ is) in
        let lw = none_past whole i b is in
        take_all_of own (i + 1) (omega (arith, lo)) ∙ sym (take_all_of own i lo) ∙ so_far ∙ take_all_of whole i lw ∙ sym (take_all_of whole (i + 1) (omega (arith, lw)))

-- and all of them
pub same_all : (own whole : Numbered) (n : ℕ) → IsNumbered own → IsNumbered whole → n ≡ (rank_of own).number → n ≡ (rank_of whole).number → take n own ≡ take n whole → own ≡ whole
same_all own whole n a b long short same =
    let ca = count_is own a in
    let cb = count_is whole b in
    sym (take_all_of own n (omega (arith, ca, long))) ∙ same ∙ take_all_of whole n (omega (arith, cb, short))

-- whether two lists are the same, as those that the disks read as
pub compared : (tells : Type 0) (view other : Viewing) (a a' b b' : DiskSeen) (alike : Bool) → IsAsViewed tells view (a.size view.log.side) a.stands → IsAsViewed tells other (b.size other.log.side) b.stands → IsStill tells a a' → IsStill tells b b'
    → a'.faults ≡ a.faults → b'.faults ≡ b.faults → (tells → (whole own : Numbered) → HasView view a.stands.seen whole → HasView other b.stands.seen own → (alike ≡ true → own ≡ whole) × (alike ≡ false → own ≡ whole → ⊥)) → HasCompared tells a a' b b' (Ok alike)
compared tells view other a a' b b' alike there here still_a still_b calm_a calm_b is = record {
  source = still_a;
  disk = still_b;
  same = λ told.
      let whole = there.told told in
      let own = here.told told in
      let h = is told whole.list own.list whole.has own.has in
      (λ y. own.has.listed ∙ ap (λ (l : Numbered). Some l) (h.0 y) ∙ sym whole.has.listed, λ n same. h.1 n (some_list own.list whole.list (sym own.has.listed ∙ same ∙ whole.has.listed)));
  calm = (calm_a, calm_b);
  cause = tt;
}
  where
    some_list : (x y : Numbered) → Some x ≡ Some y → x ≡ y
    some_list x y e = cc e

-- ---- two elements of a list, which was split between them

pub two_set : {A : Type 0} (front back : List A) (i : ℕ) (x y : A) → i < length front → slice_set front i x ++ slice_set back 0 y ≡ slice_set (slice_set (front ++ back) i x) (length front) y
two_set [] back i x y low = absurd (omega (arith, low))
two_set (z ∷ front) back zero x y low = ap (λ zs. x ∷ zs) (back_set front)
  where
    back_set : (front : List _) → front ++ slice_set back 0 y ≡ slice_set (front ++ back) (length front) y
    back_set [] = refl
    back_set (w ∷ ws) = ap (λ zs. w ∷ zs) (back_set ws)
two_set (z ∷ front) back (suc i) x y low = ap (λ zs. z ∷ zs) (two_set front back i x y (omega (arith, low)))

-- of the list that was split: its two elements as they were, and as they were left
module _ {A : Type 0} (f : A → DiskSeen) (disks front back : List A) (i j : ℕ) (x y d e : A) (split : disks ≡ front ++ back) (long : length front ≡ j) (low : i < j) (within : j < length disks) where
  abbrev pub left : List A
  left = slice_set front i x ++ slice_set back 0 y

  low_front : i < length front
  low_front = omega (arith, low, long)

  parts : length disks ≡ length front + length back
  parts = ap (λ (xs : List A). length xs) split ∙ sum front
    where
      sum : (xs : List A) → length (xs ++ back) ≡ length xs + length back
      sum [] = omega arith
      sum (z ∷ zs) = let h = sum zs in omega (arith, h)

  some_back : 0 < length back
  some_back = let h = parts in omega (arith, h, within, long)

  low_disks : i < length disks
  low_disks = omega (arith, low, within)

  set : left ≡ slice_set (slice_set disks i x) j y
  set = two_set front back i x y low_front ∙ ap (λ (xs : List A). slice_set (slice_set xs i x) (length front) y) (sym split) ∙ ap (λ k. slice_set (slice_set disks i x) k y) long

  in_front : (xs : List A) (k : ℕ) → k < length xs → slice_index_or (xs ++ back) k d ≡ slice_index_or xs k d
  in_front [] k h = absurd (omega (arith, h))
  in_front (z ∷ zs) zero h = refl
  in_front (z ∷ zs) (suc k) h = in_front zs k (omega (arith, h))

  in_back : (xs : List A) → slice_index_or (xs ++ back) (length xs) e ≡ slice_index_or back 0 e
  in_back [] = refl
  in_back (z ∷ zs) = in_back zs

  pub old_i : seen_at (map f disks) i ≡ f (slice_index_or front i d)
  old_i = seen_is f disks i d low_disks ∙ ap (λ (xs : List A). f (slice_index_or xs i d)) split ∙ ap f (in_front front i low_front)

  pub old_j : seen_at (map f disks) j ≡ f (slice_index_or back 0 e)
  old_j = seen_is f disks j e within ∙ ap (λ (xs : List A). f (slice_index_or xs j e)) split ∙ ap (λ k. f (slice_index_or (front ++ back) k e)) (sym long) ∙ ap f (in_back front)

  set_long : length (slice_set disks i x) ≡ length disks
  set_long = length-set disks i x

  new_i : seen_at (map f left) i ≡ f x
  new_i = ap (λ (xs : List A). seen_at (map f xs) i) set ∙ seen_there f (slice_set disks i x) j i y (λ same. omega (arith, same, low)) ∙ seen_here f disks i x low_disks

  new_j : seen_at (map f left) j ≡ f y
  new_j = ap (λ (xs : List A). seen_at (map f xs) j) set ∙ seen_here f (slice_set disks i x) j y (let h = set_long in omega (arith, h, within))

  pub pair_rest : (p : ℕ) → p ≢ i → p ≢ j → seen_at (map f left) p ≡ seen_at (map f disks) p
  pair_rest p a b = ap (λ (xs : List A). seen_at (map f xs) p) set ∙ seen_there f (slice_set disks i x) j p y b ∙ seen_there f disks i p x a

  pub pair_moved : (P : DiskSeen → DiskSeen → DiskSeen → DiskSeen → Type 0) → P (f (slice_index_or front i d)) (f x) (f (slice_index_or back 0 e)) (f y) → P (seen_at (map f disks) i) (seen_at (map f left) i) (seen_at (map f disks) j) (seen_at (map f left) j)
  pair_moved P h =
      subst (λ (s : DiskSeen). P s (seen_at (map f left) i) (seen_at (map f disks) j) (seen_at (map f left) j)) (sym old_i)
      (subst (λ (s : DiskSeen). P (f (slice_index_or front i d)) s (seen_at (map f disks) j) (seen_at (map f left) j)) (sym new_i)
      (subst (λ (s : DiskSeen). P (f (slice_index_or front i d)) (f x) s (seen_at (map f left) j)) (sym old_j)
      (subst (λ (s : DiskSeen). P (f (slice_index_or front i d)) (f x) (f (slice_index_or back 0 e)) s) (sym new_j) h)))
