-- Records by key: where one more stands, and where the one that ends a key's is found.
use Rattle.std.proofs.Common.{◌≡◌, ℕ, zero, suc, ◌+◌, ◌≤◌, Bool, true, false, cond, ◌&&◌, List, [], ◌∷◌, Some, None, Ordering, Less, Equal, Greater, length, map, get_or, is_eq, is_gt, refl, ap, sym, subst, ◌∙◌, arith, add-zero}
use Rattle.std.proofs.lemmas.Bool.{and_parts, false≢true}
use Rattle.std.proofs.lemmas.Cmp.{upto}
use Rattle.std.proofs.lemmas.Grind.{common_steps}
use Rattle.std.proofs.lemmas.List.Elements.{All-get_or, All-from_get_or, All-from_recursion, recursion_from_All}
use Rattle.std.proofs.lemmas.Map.Text.{is_eq-slice_cmp}
use Rattle.std.proofs.lemmas.Slice.Eq.{bytes_eq-Decides}
use Rattle.std.specs.Cmp.Lexicographic.{nat_list_cmp_total}
use Rattle.std.specs.List.{AllByRecursion, AllWithin, count_by, insert, position_from}
use Rattle.std.specs.List.Sorted.{IsPartitionedBy}
use Rattle.std.specs.Ordering.{is_le, is_lt, ordering_reverse}
use Rattle.std.specs.Str.{bytes_eq}
use Rattle.hs_roots.specs.ByKey.{StandByKey, count_upto, insert_by_key, is_upto, key_cmp, may_precede}
use Rattle.hs_roots.proofs.InsertLemmas.{all_insert, count_cons}

-- ---- keys

le_not_gt : (o : Ordering) → is_le o ≡ true → is_gt o ≡ false
le_not_gt Less e = refl
le_not_gt Equal e = refl
le_not_gt Greater e = cc e

not_gt_le : (o : Ordering) → is_gt o ≡ false → is_le o ≡ true
not_gt_le Less e = refl
not_gt_le Equal e = refl
not_gt_le Greater e = cc e

lt_le : (o : Ordering) → is_lt o ≡ true → is_le o ≡ true
lt_le Less e = refl
lt_le Equal e = cc
lt_le Greater e = cc e

back : (a b : List ℕ) → key_cmp b a ≡ ordering_reverse (key_cmp a b)
back a b = nat_list_cmp_total.antisymm b a

pub upto_upto : (a b c : List ℕ) → is_upto a b ≡ true → is_upto b c ≡ true → is_upto a c ≡ true
upto_upto a b c p q = not_gt_le (key_cmp a c) (upto nat_list_cmp_total a b c (le_not_gt (key_cmp a b) p) (le_not_gt (key_cmp b c) q))

-- a key that is not at most another is above it
pub above : (a b : List ℕ) → is_upto a b ≡ false → is_lt (key_cmp b a) ≡ true
above a b e = ap (λ o. is_lt o) (back a b) ∙ go (key_cmp a b) e
  where
    go : (o : Ordering) → is_le o ≡ false → is_lt (ordering_reverse o) ≡ true
    go Less e = cc e
    go Equal e = cc e
    go Greater e = refl

pub below : (a b : List ℕ) → is_lt (key_cmp a b) ≡ true → is_upto b a ≡ false
below a b e = ap (λ o. is_le o) (back a b) ∙ go (key_cmp a b) e
  where
    go : (o : Ordering) → is_lt o ≡ true → is_le (ordering_reverse o) ≡ false
    go Less e = refl
    go Equal e = cc e
    go Greater e = cc e

not_lt_back : (a b : List ℕ) → is_lt (key_cmp a b) ≡ false → is_upto b a ≡ true
not_lt_back a b e = ap (λ o. is_le o) (back a b) ∙ go (key_cmp a b) e
  where
    go : (o : Ordering) → is_lt o ≡ false → is_le (ordering_reverse o) ≡ true
    go Less e = cc e
    go Equal e = refl
    go Greater e = refl

pub lt_upto : (a b c : List ℕ) → is_lt (key_cmp a b) ≡ true → is_upto b c ≡ true → is_lt (key_cmp a c) ≡ true
lt_upto a b c p q = go (is_lt (key_cmp a c)) refl
  where
    go : (t : Bool) → is_lt (key_cmp a c) ≡ t → t ≡ true
    go true e = refl
    go false e = absurd (false≢true (sym (below a b p) ∙ upto_upto b c a q (not_lt_back a c e)))

-- a key that is at most another, and not the same, is below it
pub lt_from : (a b : List ℕ) → is_upto a b ≡ true → bytes_eq a b ≡ false → is_lt (key_cmp a b) ≡ true
lt_from a b p q = go (key_cmp a b) p (is_eq-slice_cmp a b ∙ q)
  where
    go : (o : Ordering) → is_le o ≡ true → is_eq o ≡ false → is_lt o ≡ true
    go Less p q = refl
    go Equal p q = cc q
    go Greater p q = cc p

pub same_upto : (a b : List ℕ) → bytes_eq a b ≡ true → is_upto a b ≡ true
same_upto a b e = go (key_cmp a b) (is_eq-slice_cmp a b ∙ e)
  where
    go : (o : Ordering) → is_eq o ≡ true → is_le o ≡ true
    go Less p = refl
    go Equal p = refl
    go Greater p = cc p

-- ---- records

module _ {X : Type 0} (key_of : X → List ℕ) (ends : X → Bool) where
  abbrev pub Before : X → X → Type 0
  Before one later = may_precede key_of ends one later ≡ true

  -- the same by recursion
  abbrev pub Standing : List X → Type 0
  Standing [] = Unit {0}
  Standing (x ∷ xs) = AllByRecursion (Before x) xs × Standing xs

  pub standing_from : (xs : List X) → StandByKey key_of ends xs → Standing xs
  standing_from [] f = tt
  standing_from (x ∷ xs) f = (
    recursion_from_All (Before x) xs (All-from_get_or (Before x) xs x (λ j l. f 0 (suc j) x (omega arith) (grind (arith, common_steps, l)))),
    standing_from xs (λ i j d l m. f (suc i) (suc j) d (omega (arith, l)) (grind (arith, common_steps, m))),
  )

  pub stand_from : (xs : List X) → Standing xs → StandByKey key_of ends xs
  stand_from [] h i j d l m = absurd (omega (arith, m))
  stand_from (x ∷ xs) h i zero d l m = absurd (omega (arith, l))
  stand_from (x ∷ xs) h zero (suc j) d l m = All-get_or (Before x) xs j d (grind (arith, common_steps, m)) (All-from_recursion (Before x) xs h.0)
  stand_from (x ∷ xs) h (suc i) (suc j) d l m = stand_from xs h.1 i j d (omega (arith, l)) (grind (arith, common_steps, m))

  before_upto : (x y : X) → Before x y → is_upto (key_of x) (key_of y) ≡ true
  before_upto x y b = go (ends x) b
    where
      go : (t : Bool) → cond t (is_lt (key_cmp (key_of x) (key_of y))) (is_upto (key_of x) (key_of y)) ≡ true → is_upto (key_of x) (key_of y) ≡ true
      go true e = lt_le (key_cmp (key_of x) (key_of y)) e
      go false e = e

  lt_before : (x y : X) → is_lt (key_cmp (key_of x) (key_of y)) ≡ true → Before x y
  lt_before x y e = go (ends x)
    where
      go : (t : Bool) → cond t (is_lt (key_cmp (key_of x) (key_of y))) (is_upto (key_of x) (key_of y)) ≡ true
      go true = e
      go false = lt_le (key_cmp (key_of x) (key_of y)) e

  -- records whose keys are all above a key
  none_upto : (key : List ℕ) (xs : List X) → AllByRecursion (λ x. is_upto (key_of x) key ≡ false) xs → count_upto key_of key xs ≡ 0
  none_upto key [] h = refl
  none_upto key (x ∷ xs) h = count_cons (λ one. is_upto (key_of one) key) x xs ∙ rw (h.0, none_upto key xs h.1) refl

  -- what stands behind a record whose key is above another is above it, too
  above_all : (key : List ℕ) (x : X) (xs : List X) → is_upto (key_of x) key ≡ false → AllByRecursion (Before x) xs → AllByRecursion (λ y. is_upto (key_of y) key ≡ false) xs
  above_all key x [] e h = tt
  above_all key x (y ∷ ys) e h = (go (is_upto (key_of y) key) refl, above_all key x ys e h.1)
    where
      go : (t : Bool) → is_upto (key_of y) key ≡ t → t ≡ false
      go true q = absurd (false≢true (sym e ∙ upto_upto (key_of x) (key_of y) key (before_upto x y h.0) q))
      go false q = refl

  -- ---- one more

  insert_behind : (x y : X) (xs : List X) → is_upto (key_of x) (key_of y) ≡ true → insert_by_key key_of y (x ∷ xs) ≡ x ∷ insert_by_key key_of y xs
  insert_behind x y xs e =
      let one = count_cons (λ one. is_upto (key_of one) (key_of y)) x xs ∙ ap (λ t. cond t 1 0 + count_upto key_of (key_of y) xs) e in
      let next : count_upto key_of (key_of y) (x ∷ xs) ≡ suc (count_upto key_of (key_of y) xs) = omega (arith, one) in
      ap (λ n. insert (x ∷ xs) n y) next

  insert_before : (x y : X) (xs : List X) → AllByRecursion (λ x. is_upto (key_of x) (key_of y) ≡ false) (x ∷ xs) → insert_by_key key_of y (x ∷ xs) ≡ y ∷ x ∷ xs
  insert_before x y xs h = ap (λ n. insert (x ∷ xs) n y) (none_upto (key_of y) (x ∷ xs) h)

  pub insert_stands : (xs : List X) (y : X) → AllByRecursion (λ x. is_upto (key_of x) (key_of y) ≡ true → Before x y) xs → Standing xs → Standing (insert_by_key key_of y xs)
  insert_stands [] y may h = (tt, tt)
  insert_stands (x ∷ xs) y may h = go (is_upto (key_of x) (key_of y)) refl (insert_stands xs y may.1 h.1)
    where
      go : (t : Bool) → is_upto (key_of x) (key_of y) ≡ t → Standing (insert_by_key key_of y xs) → Standing (insert_by_key key_of y (x ∷ xs))
      go true e ih = subst Standing (sym (insert_behind x y xs e)) (all_insert (Before x) xs (count_upto key_of (key_of y) xs) y (may.0 e) h.0, ih)
      go false e ih =
          let rest = above_all (key_of y) x xs e h.0 in
          subst Standing (sym (insert_before x y xs (e, rest))) ((lt_before y x (above (key_of x) (key_of y) e), lower xs rest), h)
        where
          lower : (zs : List X) → AllByRecursion (λ z. is_upto (key_of z) (key_of y) ≡ false) zs → AllByRecursion (Before y) zs
          lower [] a = tt
          lower (z ∷ zs) a = (lt_before y z (above (key_of z) (key_of y) a.0), lower zs a.1)

  -- ---- each changed

  pub map_stands : (f : X → X) → ((x : X) → key_of (f x) ≡ key_of x) → ((x : X) → ends (f x) ≡ true → ends x ≡ true) → (xs : List X) → Standing xs → Standing (map f xs)
  map_stands f keys still [] h = tt
  map_stands f keys still (x ∷ xs) h = (each xs h.0, map_stands f keys still xs h.1)
    where
      one : (y : X) → Before x y → Before (f x) (f y)
      one y b = go (ends (f x)) refl
        where
          go : (t : Bool) → ends (f x) ≡ t → cond t (is_lt (key_cmp (key_of (f x)) (key_of (f y)))) (is_upto (key_of (f x)) (key_of (f y))) ≡ true
          go true e = rw (keys x, keys y) (subst (λ t. cond t (is_lt (key_cmp (key_of x) (key_of y))) (is_upto (key_of x) (key_of y)) ≡ true) (still x e) b)
          go false e = rw (keys x, keys y) (before_upto x y b)

      each : (ys : List X) → AllByRecursion (Before x) ys → AllByRecursion (Before (f x)) (map f ys)
      each [] a = tt
      each (y ∷ ys) a = (one y a.0, each ys a.1)

  -- ---- what is found

  -- the records with a key at most another's are the first ones
  pub upto_is_front : (key : List ℕ) (xs : List X) → Standing xs → IsPartitionedBy (λ x. is_upto (key_of x) key) xs
  upto_is_front key [] h i j d l m t = absurd (omega (arith, m))
  upto_is_front key (x ∷ xs) h zero zero d l m t = t
  upto_is_front key (x ∷ xs) h zero (suc j) d l m t =
      let b = All-get_or (Before x) xs j d (grind (arith, common_steps, m)) (All-from_recursion (Before x) xs h.0) in
      upto_upto (key_of x) (key_of (get_or xs j d)) key (before_upto x (get_or xs j d) b) t
  upto_is_front key (x ∷ xs) h (suc i) zero d l m t = absurd (omega (arith, l))
  upto_is_front key (x ∷ xs) h (suc i) (suc j) d l m t = upto_is_front key xs h.1 i j d (omega (arith, l)) (grind (arith, common_steps, m)) t

  -- a record that ends a key's
  abbrev pub ends_of : List ℕ → X → Bool
  ends_of key x = ends x && bytes_eq (key_of x) key

  -- what stands behind a record that ends a key's is above that key
  behind_end : (key : List ℕ) (x : X) (xs : List X) → ends_of key x ≡ true → AllByRecursion (Before x) xs → AllByRecursion (λ y. is_upto (key_of y) key ≡ false) xs
  behind_end key x [] e h = tt
  behind_end key x (y ∷ ys) e h =
      let both = and_parts (ends x) (bytes_eq (key_of x) key) e in
      let lower : is_lt (key_cmp (key_of x) (key_of y)) ≡ true = subst (λ t. cond t (is_lt (key_cmp (key_of x) (key_of y))) (is_upto (key_of x) (key_of y)) ≡ true) both.0 h.0 in
      let same : key_of x ≡ key = (bytes_eq-Decides (key_of x) key).0 both.1 in
      (subst (λ k. is_upto (key_of y) k ≡ false) same (below (key_of x) (key_of y) lower), behind_end key x ys e h.1)

  above_fails : (key : List ℕ) (x : X) → is_upto (key_of x) key ≡ false → ends_of key x ≡ false
  above_fails key x e = go (ends_of key x) refl
    where
      go : (t : Bool) → ends_of key x ≡ t → t ≡ false
      go true q = absurd (false≢true (sym e ∙ same_upto (key_of x) key (and_parts (ends x) (bytes_eq (key_of x) key) q).1))
      go false q = refl

  none_above : (key : List ℕ) (xs : List X) (n : ℕ) → AllByRecursion (λ x. is_upto (key_of x) key ≡ false) xs → position_from (ends_of key) n xs ≡ None
  none_above key [] n h = refl
  none_above key (x ∷ xs) n h = rw (above_fails key x h.0) (none_above key xs (n + 1) h.1)

  zero_above : (key : List ℕ) (xs : List X) → count_upto key_of key xs ≡ 0 → AllByRecursion (λ x. is_upto (key_of x) key ≡ false) xs
  zero_above key [] e = tt
  zero_above key (x ∷ xs) e = go (is_upto (key_of x) key) refl (sym (count_cons (λ one. is_upto (key_of one) key) x xs) ∙ e) (zero_above key xs)
    where
      go : (t : Bool) → is_upto (key_of x) key ≡ t → cond t 1 0 + count_upto key_of key xs ≡ 0 → (count_upto key_of key xs ≡ 0 → AllByRecursion (λ x. is_upto (key_of x) key ≡ false) xs)
          → (is_upto (key_of x) key ≡ false) × AllByRecursion (λ x. is_upto (key_of x) key ≡ false) xs
      go true q z ih = absurd (omega (arith, z))
      go false q z ih = (q, ih (omega (arith, z)))

  -- where no key is at most this one, nothing ends its records
  pub found_none : (key : List ℕ) (xs : List X) (n : ℕ) → count_upto key_of key xs ≡ 0 → position_from (ends_of key) n xs ≡ None
  found_none key xs n e = none_above key xs n (zero_above key xs e)

  -- else the last one whose key is at most this one does, or none
  pub found_last : (key : List ℕ) (xs : List X) (n i : ℕ) (d : X) → Standing xs → count_upto key_of key xs ≡ suc i → position_from (ends_of key) n xs ≡ cond (ends_of key (get_or xs i d)) (Some (n + i)) None
  found_last key [] n i d h e = absurd (omega (arith, e))
  found_last key (x ∷ xs) n i d h e = go (is_upto (key_of x) key) refl (sym (count_cons (λ one. is_upto (key_of one) key) x xs) ∙ e) (λ i d z. found_last key xs (n + 1) i d h.1 z)
    where
      Rest : Type 0
      Rest = (i : ℕ) (d : X) → count_upto key_of key xs ≡ suc i → position_from (ends_of key) (n + 1) xs ≡ cond (ends_of key (get_or xs i d)) (Some (n + 1 + i)) None

      last : (i : ℕ) → count_upto key_of key xs ≡ i → Rest → cond (ends_of key x) (Some n) (position_from (ends_of key) (n + 1) xs) ≡ cond (ends_of key (get_or (x ∷ xs) i d)) (Some (n + i)) None
      last zero z ih = ap (λ found. cond (ends_of key x) (Some n) found) (found_none key xs (n + 1) z) ∙ ap (λ m. cond (ends_of key x) (Some m) None) (sym (add-zero n))
      last (suc i) z ih = fails (ends_of key x) refl ∙ ih i d z ∙ ap (λ m. cond (ends_of key (get_or xs i d)) (Some m) None) (omega arith)
        where
          fails : (t : Bool) → ends_of key x ≡ t → cond t (Some n) (position_from (ends_of key) (n + 1) xs) ≡ position_from (ends_of key) (n + 1) xs
          fails true q = let none = none_upto key xs (behind_end key x xs q h.0) in absurd (omega (arith, none, z))
          fails false q = refl

      go : (t : Bool) → is_upto (key_of x) key ≡ t → cond t 1 0 + count_upto key_of key xs ≡ suc i → Rest → cond (ends_of key x) (Some n) (position_from (ends_of key) (n + 1) xs) ≡ cond (ends_of key (get_or (x ∷ xs) i d)) (Some (n + i)) None
      go true q z ih = last i (omega (arith, z)) ih
      go false q z ih = let none = none_upto key xs (above_all key x xs q h.0) in absurd (omega (arith, none, z))

  -- a key's records are ended once at most
  pub ended_once : (key : List ℕ) (xs : List X) → Standing xs → count_by (ends_of key) xs ≤ 1
  ended_once key [] h = omega arith
  ended_once key (x ∷ xs) h = go (ends_of key x) refl (ended_once key xs h.1)
    where
      none : (ys : List X) → AllByRecursion (λ y. is_upto (key_of y) key ≡ false) ys → count_by (ends_of key) ys ≡ 0
      none [] a = refl
      none (y ∷ ys) a = count_cons (ends_of key) y ys ∙ rw (above_fails key y a.0, none ys a.1) refl

      go : (t : Bool) → ends_of key x ≡ t → count_by (ends_of key) xs ≤ 1 → count_by (ends_of key) (x ∷ xs) ≤ 1
      go true e ih =
          let both = count_cons (ends_of key) x xs ∙ ap (λ s. cond s 1 0 + count_by (ends_of key) xs) e in
          let rest = none xs (behind_end key x xs e h.0) in
          omega (arith, both, rest)
      go false e ih =
          let both = count_cons (ends_of key) x xs ∙ ap (λ s. cond s 1 0 + count_by (ends_of key) xs) e in
          omega (arith, both, ih)

-- ---- how many pass, from where they end

module _ {X : Type 0} (p : X → Bool) where
  pub count_front : (xs : List X) (i : ℕ) → i ≤ length xs → AllWithin (λ x. p x ≡ true) xs 0 i → AllWithin (λ x. p x ≡ false) xs i (length xs) → count_by p xs ≡ i
  count_front [] zero l front rest = refl
  count_front [] (suc i) l front rest = absurd (omega (arith, l))
  count_front (x ∷ xs) zero l front rest =
      let more = count_front xs 0 (omega arith) (λ k d a b. absurd (omega (arith, b))) (λ k d a b. rest (suc k) d (omega arith) (omega (arith, b))) in
      count_cons p x xs ∙ rw (rest 0 x (omega arith) (omega arith), more) refl
  count_front (x ∷ xs) (suc i) l front rest =
      let more = count_front xs i (omega (arith, l)) (λ k d a b. front (suc k) d (omega arith) (omega (arith, b))) (λ k d a b. rest (suc k) d (omega (arith, a)) (omega (arith, b))) in
      let one = count_cons p x xs ∙ ap (λ t. cond t 1 0 + count_by p xs) (front 0 x (omega arith) (omega arith)) in
      omega (arith, one, more)
