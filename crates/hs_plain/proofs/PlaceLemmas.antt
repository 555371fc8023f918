-- Lists whose roots are each at its place.
use Rattle.std.proofs.Common.{◌≡◌, List, [], ◌∷◌, ◌++◌, Bool, true, false, cond, Some, None, refl, sym, ap, ◌∙◌, filter, find, map, is_gt, Ordering, Less, Equal, Greater, ◌||◌}
use Rattle.std.proofs.lemmas.Bool.{false≢true}
use Rattle.std.proofs.lemmas.Cmp.{upto}
use Rattle.std.specs.List.{AllByRecursion, count_by}
use Rattle.std.specs.Ordering.{ordering_reverse}
use Rattle.hs_limits.specs.declared.address.Address.{Address}
use Rattle.hs_model.specs.Reach.{is_same, is_among}
use Rattle.hs_plain.specs.RootWords.{in_place}
use Rattle.hs_model.specs.Store.{Root, root_cmp, place_root, without_first}
use Rattle.hs_model.proofs.CountLemmas.{count-cons}
use Rattle.hs_plain.proofs.CountLemmas.{count-rest, count-more}
use Rattle.hs_model.proofs.PlaceLemmas.{Before, Rising, root_total, root_same, before-all, place-rising}

in_place-rising : (rs : List Root) → Rising (in_place rs)
in_place-rising [] = tt
in_place-rising (r ∷ rs) = place-rising r (in_place rs) (in_place-rising rs)

-- ---- two roots go to the same places, whichever is first

two : (a b : Root) (l : List Root) → cond (is_gt (root_cmp a b)) (b ∷ a ∷ l) (a ∷ b ∷ l) ≡ cond (is_gt (root_cmp b a)) (a ∷ b ∷ l) (b ∷ a ∷ l)
two a b l = go (root_cmp a b) refl
  where
    back : (o : Ordering) → root_cmp a b ≡ o → root_cmp b a ≡ ordering_reverse o
    back o e = root_total.antisymm b a ∙ ap (λ z. ordering_reverse z) e

    go : (o : Ordering) → root_cmp a b ≡ o → cond (is_gt (root_cmp a b)) (b ∷ a ∷ l) (a ∷ b ∷ l) ≡ cond (is_gt (root_cmp b a)) (a ∷ b ∷ l) (b ∷ a ∷ l)
    go Less e = rw (e, back Less e)
    go Greater e = rw (e, back Greater e)
    go Equal e =
        let same = root_same a b e in
        rw (e, back Equal e) (ap (λ z. z ∷ b ∷ l) same ∙ ap (λ z. b ∷ z ∷ l) (sym same))

-- a root that is past another, which is not past a third, is past the third's place
past : (a b x : Root) → is_gt (root_cmp a x) ≡ true → is_gt (root_cmp b x) ≡ false → is_gt (root_cmp a b) ≡ true
past a b x p q = go (is_gt (root_cmp a b)) refl
  where
    go : (c : Bool) → is_gt (root_cmp a b) ≡ c → c ≡ true
    go true e = refl
    go false e = absurd (false≢true (sym (upto root_total a b x e q) ∙ p))

pub place-swap : (a b : Root) (l : List Root) → place_root a (place_root b l) ≡ place_root b (place_root a l)
place-swap a b [] = two a b []
place-swap a b (x ∷ l) = go (place-swap a b l) (is_gt (root_cmp a x)) refl (is_gt (root_cmp b x)) refl
  where
    go : place_root a (place_root b l) ≡ place_root b (place_root a l) → (p : Bool) → is_gt (root_cmp a x) ≡ p → (q : Bool) → is_gt (root_cmp b x) ≡ q → place_root a (cond q (x ∷ place_root b l) (b ∷ x ∷ l)) ≡ place_root b (cond p (x ∷ place_root a l) (a ∷ x ∷ l))
    go ih true e true f = rw (e, f) (ap (λ z. x ∷ z) ih)
    go ih true e false f = rw (past a b x e f, e, f)
    go ih false e true f = rw (past b a x f e, e, f)
    go ih false e false f = rw (e, f) (two a b (x ∷ l))

pub in_place-push : (rs : List Root) (r : Root) → in_place (rs ++ r ∷ []) ≡ place_root r (in_place rs)
in_place-push [] r = refl
in_place-push (x ∷ rs) r = ap (λ z. place_root x z) (in_place-push rs r) ∙ place-swap x r (in_place rs)

-- ---- what is found among placed roots

module _ (test : Root → Bool) where
  pub find-place_other : (r : Root) (l : List Root) → test r ≡ false → find test (place_root r l) ≡ find test l
  find-place_other r [] t = rw t
  find-place_other r (x ∷ l) t = go (find-place_other r l t) (is_gt (root_cmp r x))
    where
      go : find test (place_root r l) ≡ find test l → (b : Bool) → find test (cond b (x ∷ place_root r l) (r ∷ x ∷ l)) ≡ find test (x ∷ l)
      go ih true = ap (λ z. cond (test x) (Some x) z) ih
      go ih false = rw t

  none_parts : (x : Root) (l : List Root) → find test (x ∷ l) ≡ None → (test x ≡ false) × (find test l ≡ None)
  none_parts x l n = go (test x) refl n
    where
      go : (b : Bool) → test x ≡ b → cond b (Some x) (find test l) ≡ None → (test x ≡ false) × (find test l ≡ None)
      go true e n = cc n
      go false e n = (e, n)

  pub find-place_here : (r : Root) (l : List Root) → test r ≡ true → find test l ≡ None → find test (place_root r l) ≡ Some r
  find-place_here r [] t n = rw t
  find-place_here r (x ∷ l) t n = let p = none_parts x l n in go p.0 (find-place_here r l t p.1) (is_gt (root_cmp r x))
    where
      go : test x ≡ false → find test (place_root r l) ≡ Some r → (b : Bool) → find test (cond b (x ∷ place_root r l) (r ∷ x ∷ l)) ≡ Some r
      go f ih true = rw f ih
      go f ih false = rw t

  pub without-place : (r : Root) (l : List Root) → test r ≡ true → find test l ≡ None → without_first test (place_root r l) ≡ l
  without-place r [] t n = rw t
  without-place r (x ∷ l) t n = let p = none_parts x l n in go p.0 (without-place r l t p.1) (is_gt (root_cmp r x))
    where
      go : test x ≡ false → without_first test (place_root r l) ≡ l → (b : Bool) → without_first test (cond b (x ∷ place_root r l) (r ∷ x ∷ l)) ≡ x ∷ l
      go f ih true = rw f (ap (λ z. x ∷ z) ih)
      go f ih false = rw t

-- ---- what is counted, kept and listed of placed roots

module _ (test : Root → Bool) where
  count-place : (r : Root) (l : List Root) → count_by test (place_root r l) ≡ count_by test (r ∷ l)
  count-place r [] = refl
  count-place r (x ∷ l) = go (count-place r l) (is_gt (root_cmp r x))
    where
      go : count_by test (place_root r l) ≡ count_by test (r ∷ l) → (b : Bool) → count_by test (cond b (x ∷ place_root r l) (r ∷ x ∷ l)) ≡ count_by test (r ∷ x ∷ l)
      go ih true = count-more test x (place_root r l) l (cond (test r) 1 0) (ih ∙ count-cons test r l) ∙ sym (count-cons test r (x ∷ l))
      go ih false = refl

  pub count-in_place : (rs : List Root) → count_by test (in_place rs) ≡ count_by test rs
  count-in_place [] = refl
  count-in_place (r ∷ rs) = count-place r (in_place rs) ∙ count-rest test r (in_place rs) rs (count-in_place rs)

  filter-place_other : (r : Root) (l : List Root) → test r ≡ false → filter test (place_root r l) ≡ filter test l
  filter-place_other r [] t = rw t
  filter-place_other r (x ∷ l) t = go (filter-place_other r l t) (is_gt (root_cmp r x))
    where
      go : filter test (place_root r l) ≡ filter test l → (b : Bool) → filter test (cond b (x ∷ place_root r l) (r ∷ x ∷ l)) ≡ filter test (x ∷ l)
      go ih true = ap (λ z. cond (test x) (x ∷ z) z) ih
      go ih false = rw t

  pub kept-all : (P : Root → Type 0) (rs : List Root) → AllByRecursion P rs → AllByRecursion P (filter test rs)
  kept-all P [] h = tt
  kept-all P (r ∷ rs) h = go (kept-all P rs h.1) (test r)
    where
      go : AllByRecursion P (filter test rs) → (b : Bool) → AllByRecursion P (cond b (r ∷ filter test rs) (filter test rs))
      go ih true = (h.0, ih)
      go ih false = ih

  place-first : (r : Root) (l : List Root) → AllByRecursion (Before r) l → place_root r l ≡ r ∷ l
  place-first r [] h = refl
  place-first r (x ∷ l) h = rw h.0

  filter-place_kept : (r : Root) (l : List Root) → test r ≡ true → Rising l → filter test (place_root r l) ≡ place_root r (filter test l)
  filter-place_kept r [] t h = rw t
  filter-place_kept r (x ∷ l) t h = go (filter-place_kept r l t h.1) (is_gt (root_cmp r x)) refl
    where
      goes_on : filter test (place_root r l) ≡ place_root r (filter test l) → is_gt (root_cmp r x) ≡ true → (c : Bool) → cond c (x ∷ filter test (place_root r l)) (filter test (place_root r l)) ≡ place_root r (cond c (x ∷ filter test l) (filter test l))
      goes_on ih e true = rw e (ap (λ z. x ∷ z) ih)
      goes_on ih e false = ih

      go : filter test (place_root r l) ≡ place_root r (filter test l) → (b : Bool) → is_gt (root_cmp r x) ≡ b → filter test (cond b (x ∷ place_root r l) (r ∷ x ∷ l)) ≡ place_root r (filter test (x ∷ l))
      go ih true e = goes_on ih e (test x)
      go ih false e = rw t (sym (place-first r (filter test (x ∷ l)) (kept-all (Before r) (x ∷ l) (e, before-all r x l e h.0))))

  pub filter-in_place : (rs : List Root) → filter test (in_place rs) ≡ in_place (filter test rs)
  filter-in_place [] = refl
  filter-in_place (r ∷ rs) = go (filter-in_place rs) (test r) refl
    where
      go : filter test (in_place rs) ≡ in_place (filter test rs) → (b : Bool) → test r ≡ b → filter test (place_root r (in_place rs)) ≡ in_place (cond b (r ∷ filter test rs) (filter test rs))
      go ih true t = filter-place_kept r (in_place rs) t (in_place-rising rs) ∙ ap (λ z. place_root r z) ih
      go ih false t = filter-place_other r (in_place rs) t ∙ ih

abbrev addresses : List Root → List Address
addresses roots = map (λ root. root.address) roots

either_first : (a b c : Bool) → (a || (b || c)) ≡ (b || (a || c))
either_first true true c = refl
either_first true false c = refl
either_first false true c = refl
either_first false false c = refl

among-place : (r : Root) (l : List Root) (a : Address) → is_among (addresses (place_root r l)) a ≡ (is_same a r.address || is_among (addresses l) a)
among-place r [] a = refl
among-place r (x ∷ l) a = go (among-place r l a) (is_gt (root_cmp r x))
  where
    go : is_among (addresses (place_root r l)) a ≡ (is_same a r.address || is_among (addresses l) a) → (b : Bool) → is_among (addresses (cond b (x ∷ place_root r l) (r ∷ x ∷ l))) a ≡ (is_same a r.address || is_among (addresses (x ∷ l)) a)
    go ih true = ap (λ z. is_same a x.address || z) ih ∙ either_first (is_same a x.address) (is_same a r.address) (is_among (addresses l) a)
    go ih false = refl

pub among-in_place : (rs : List Root) (a : Address) → is_among (map (λ root. root.address) (in_place rs)) a ≡ is_among (map (λ root. root.address) rs) a
among-in_place [] a = refl
among-in_place (r ∷ rs) a = among-place r (in_place rs) a ∙ ap (λ z. is_same a r.address || z) (among-in_place rs a)
