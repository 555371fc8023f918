-- The lists of entries stay in the order of their keys.
use Rattle.std.proofs.Common.{◌≡◌, ℕ, List, [], ◌∷◌, Bool, true, false, cond, Option, Some, None, refl, ap, ◌∙◌, filter, Ordering, Less, Equal, Greater, is_gt, zero, suc, length, ◌<◌, slice_index_or, arith}
use Rattle.std.proofs.lemmas.Cmp.{nat_cmp_total, then_total, on_total, upto}
use Rattle.std.proofs.lemmas.Grind.{common_steps}
use Rattle.std.proofs.lemmas.Map.Keys.{sorted_head, sorted_tail}
use Rattle.std.specs.Cmp.{IsTotalOrder}
use Rattle.std.specs.Cmp.Lexicographic.{on_texts}
use Rattle.std.specs.BTreeMap.{insert_entry}
use Rattle.std.specs.List.{AllByRecursion}
use Rattle.std.specs.List.Sorted.{IsStrictlySortedBy}
use Rattle.std.specs.Map.{keys_of, remove_entry}
use Rattle.std.specs.Ordering.{match_ordering, ordering_reverse}
use Rattle.hs_model.specs.Store.{Root, root_cmp, dropped_cmp, place_root, without_first, address_cmp}

pub address_total : IsTotalOrder address_cmp
address_total = on_texts (λ a. a.0)

-- ---- over any keys

sorted-cons : {K : Type 0} (c : K → K → Ordering) (k : K) (ks : List K) → AllByRecursion (λ y. c k y ≡ Less) ks → IsStrictlySortedBy c ks → IsStrictlySortedBy c (k ∷ ks)
unfolding IsStrictlySortedBy
sorted-cons c k ks h d = (h, d)

less-all : {K : Type 0} (c : K → K → Ordering) (o : IsTotalOrder c) (k x : K) (ks : List K) → c k x ≡ Less → AllByRecursion (λ y. c x y ≡ Less) ks → AllByRecursion (λ y. c k y ≡ Less) ks
less-all c o k x [] l h = tt
less-all c o k x (y ∷ ks) l h = (o.trans k x y l h.0, less-all c o k x ks l h.1)

pub none-sorted : {K : Type 0} (c : K → K → Ordering) → IsStrictlySortedBy c []
unfolding IsStrictlySortedBy
none-sorted c = tt

module _ {K V : Type 0} where
  pub insert-all : (c : K → K → Ordering) (P : K → Type 0) (es : List (K × V)) (k : K) (v : V) → P k → AllByRecursion P (keys_of es) → AllByRecursion P (keys_of (insert_entry c es k v))
  insert-all c P [] k v p h = (p, tt)
  insert-all c P (e ∷ es) k v p h = go (insert-all c P es k v p h.1) (c k e.0)
    where
      go : AllByRecursion P (keys_of (insert_entry c es k v)) → (o : Ordering) → AllByRecursion P (keys_of (match_ordering o ((k, v) ∷ e ∷ es) ((e.0, v) ∷ es) (e ∷ insert_entry c es k v)))
      go ih Less = (p, h)
      go ih Equal = h
      go ih Greater = (h.0, ih)

  pub insert-sorted : (c : K → K → Ordering) → IsTotalOrder c → (es : List (K × V)) (k : K) (v : V) → IsStrictlySortedBy c (keys_of es) → IsStrictlySortedBy c (keys_of (insert_entry c es k v))
  insert-sorted c o [] k v d = sorted-cons c k [] tt d
  insert-sorted c o (e ∷ es) k v d = go (insert-sorted c o es k v (sorted_tail c e.0 (keys_of es) d)) (c k e.0) refl
    where
      go : IsStrictlySortedBy c (keys_of (insert_entry c es k v)) → (r : Ordering) → c k e.0 ≡ r → IsStrictlySortedBy c (keys_of (match_ordering r ((k, v) ∷ e ∷ es) ((e.0, v) ∷ es) (e ∷ insert_entry c es k v)))
      go ih Less h = sorted-cons c k (keys_of (e ∷ es)) (h, less-all c o k e.0 (keys_of es) h (sorted_head c e.0 (keys_of es) d)) d
      go ih Equal h = d
      go ih Greater h = sorted-cons c e.0 (keys_of (insert_entry c es k v)) (insert-all c (λ y. c e.0 y ≡ Less) es k v (rw (o.antisymm e.0 k, h)) (sorted_head c e.0 (keys_of es) d)) ih

  filter-all : (P : K → Type 0) (p : K × V → Bool) (es : List (K × V)) → AllByRecursion P (keys_of es) → AllByRecursion P (keys_of (filter p es))
  filter-all P p [] h = tt
  filter-all P p (e ∷ es) h = go (filter-all P p es h.1) (p e)
    where
      go : AllByRecursion P (keys_of (filter p es)) → (b : Bool) → AllByRecursion P (keys_of (cond b (e ∷ filter p es) (filter p es)))
      go ih true = (h.0, ih)
      go ih false = ih

  pub filter-sorted : (c : K → K → Ordering) (p : K × V → Bool) (es : List (K × V)) → IsStrictlySortedBy c (keys_of es) → IsStrictlySortedBy c (keys_of (filter p es))
  filter-sorted c p [] d = d
  filter-sorted c p (e ∷ es) d = go (filter-sorted c p es (sorted_tail c e.0 (keys_of es) d)) (p e)
    where
      go : IsStrictlySortedBy c (keys_of (filter p es)) → (b : Bool) → IsStrictlySortedBy c (keys_of (cond b (e ∷ filter p es) (filter p es)))
      go ih true = sorted-cons c e.0 (keys_of (filter p es)) (filter-all (λ y. c e.0 y ≡ Less) p es (sorted_head c e.0 (keys_of es) d)) ih
      go ih false = ih

  remove-all : (P : K → Type 0) (test : K → Bool) (es : List (K × V)) → AllByRecursion P (keys_of es) → AllByRecursion P (keys_of (remove_entry test es))
  remove-all P test [] h = tt
  remove-all P test (e ∷ es) h = go (remove-all P test es h.1) (test e.0)
    where
      go : AllByRecursion P (keys_of (remove_entry test es)) → (b : Bool) → AllByRecursion P (keys_of (cond b es (e ∷ remove_entry test es)))
      go ih true = h.1
      go ih false = (h.0, ih)

  pub remove-sorted : (c : K → K → Ordering) (test : K → Bool) (es : List (K × V)) → IsStrictlySortedBy c (keys_of es) → IsStrictlySortedBy c (keys_of (remove_entry test es))
  remove-sorted c test [] d = d
  remove-sorted c test (e ∷ es) d = go (remove-sorted c test es (sorted_tail c e.0 (keys_of es) d)) (test e.0)
    where
      go : IsStrictlySortedBy c (keys_of (remove_entry test es)) → (b : Bool) → IsStrictlySortedBy c (keys_of (cond b es (e ∷ remove_entry test es)))
      go ih true = sorted_tail c e.0 (keys_of es) d
      go ih false = sorted-cons c e.0 (keys_of (remove_entry test es)) (remove-all (λ y. c e.0 y ≡ Less) test es (sorted_head c e.0 (keys_of es) d)) ih

-- ---- roots

pub dropped_total : IsTotalOrder dropped_cmp
dropped_total = record { antisymm = anti; trans = trans; congr = congr }
  where
    anti : (x y : Option ℕ) → dropped_cmp x y ≡ ordering_reverse (dropped_cmp y x)
    anti None None = refl
    anti None (Some y) = refl
    anti (Some x) None = refl
    anti (Some x) (Some y) = nat_cmp_total.antisymm x y

    trans : (x y z : Option ℕ) → dropped_cmp x y ≡ Less → dropped_cmp y z ≡ Less → dropped_cmp x z ≡ Less
    trans None None z h k = k
    trans None (Some y) z h k = cc h
    trans (Some x) None None h k = h
    trans (Some x) None (Some z) h k = cc k
    trans (Some x) (Some y) None h k = refl
    trans (Some x) (Some y) (Some z) h k = nat_cmp_total.trans x y z h k

    congr : (x y z : Option ℕ) → dropped_cmp x y ≡ Equal → dropped_cmp x z ≡ dropped_cmp y z
    congr None None z h = refl
    congr None (Some y) z h = cc h
    congr (Some x) None z h = cc h
    congr (Some x) (Some y) None h = refl
    congr (Some x) (Some y) (Some z) h = nat_cmp_total.congr x y z h

pub root_total : IsTotalOrder root_cmp
root_total = then_total (on_texts (λ (r : Root). r.key)) (then_total (on_total (λ (r : Root). r.dropped) dropped_total) (on_texts (λ (r : Root). r.address.0)))

abbrev pub Before : Root → Root → Type 0
Before x y = is_gt (root_cmp x y) ≡ false

abbrev pub Rising : List Root → Type 0
Rising [] = Unit {0}
Rising (r ∷ rs) = AllByRecursion (Before r) rs × Rising rs

at_from_all : (P : Root → Type 0) (rs : List Root) (d : Root) (j : ℕ) → AllByRecursion P rs → j < length rs → P (slice_index_or rs j d)
at_from_all P [] d j h l = absurd (omega (arith, l))
at_from_all P (r ∷ rs) d zero h l = h.0
at_from_all P (r ∷ rs) d (suc j) h l = at_from_all P rs d j h.1 (grind (arith, common_steps, l))

all_from_at : (P : Root → Type 0) (rs : List Root) → ((d : Root) (j : ℕ) → j < length rs → P (slice_index_or rs j d)) → AllByRecursion P rs
all_from_at P [] f = tt
all_from_at P (r ∷ rs) f = (f r 0 (grind (arith, common_steps)), all_from_at P rs (λ d j l. f d (suc j) (grind (arith, common_steps, l))))

pub pairs_from_rising : (rs : List Root) → Rising rs → (i j : ℕ) (d : Root) → i < j → j < length rs → Before (slice_index_or rs i d) (slice_index_or rs j d)
pairs_from_rising [] h i j d l m = absurd (omega (arith, m))
pairs_from_rising (r ∷ rs) h i zero d l m = absurd (omega (arith, l))
pairs_from_rising (r ∷ rs) h zero (suc j) d l m = at_from_all (Before r) rs d j h.0 (grind (arith, common_steps, m))
pairs_from_rising (r ∷ rs) h (suc i) (suc j) d l m = pairs_from_rising rs h.1 i j d (omega (arith, l)) (grind (arith, common_steps, m))

pub rising_from_pairs : (rs : List Root) → ((i j : ℕ) (d : Root) → i < j → j < length rs → Before (slice_index_or rs i d) (slice_index_or rs j d)) → Rising rs
rising_from_pairs [] f = tt
rising_from_pairs (r ∷ rs) f = (all_from_at (Before r) rs (λ d j l. f 0 (suc j) d (omega arith) (grind (arith, common_steps, l))), rising_from_pairs rs (λ i j d l m. f (suc i) (suc j) d (omega (arith, l)) (grind (arith, common_steps, m))))

pub before-all : (x y : Root) (rs : List Root) → Before x y → AllByRecursion (Before y) rs → AllByRecursion (Before x) rs
before-all x y [] b h = tt
before-all x y (r ∷ rs) b h = (upto root_total x y r b h.0, before-all x y rs b h.1)

pub before-flips : (x y : Root) → is_gt (root_cmp x y) ≡ true → Before y x
before-flips x y h = go (root_cmp x y) refl h
  where
    go : (o : Ordering) → root_cmp x y ≡ o → is_gt o ≡ true → is_gt (root_cmp y x) ≡ false
    go Less e t = cc t
    go Equal e t = cc t
    go Greater e t = ap (λ o. is_gt o) (root_total.antisymm y x ∙ ap (λ o. ordering_reverse o) e)

pub place-all : (P : Root → Type 0) (root : Root) (rs : List Root) → P root → AllByRecursion P rs → AllByRecursion P (place_root root rs)
place-all P root [] p h = (p, tt)
place-all P root (r ∷ rs) p h = go (place-all P root rs p h.1) (is_gt (root_cmp root r))
  where
    go : AllByRecursion P (place_root root rs) → (b : Bool) → AllByRecursion P (cond b (r ∷ place_root root rs) (root ∷ r ∷ rs))
    go ih true = (h.0, ih)
    go ih false = (p, h)

pub place-rising : (root : Root) (rs : List Root) → Rising rs → Rising (place_root root rs)
place-rising root [] h = (tt, tt)
place-rising root (r ∷ rs) h = go (place-rising root rs h.1) (is_gt (root_cmp root r)) refl
  where
    go : Rising (place_root root rs) → (b : Bool) → is_gt (root_cmp root r) ≡ b → Rising (cond b (r ∷ place_root root rs) (root ∷ r ∷ rs))
    go ih true e = (place-all (Before r) root rs (before-flips root r e) h.0, ih)
    go ih false e = ((e, before-all root r rs e h.0), h)

pub without-all : (P : Root → Type 0) (test : Root → Bool) (rs : List Root) → AllByRecursion P rs → AllByRecursion P (without_first test rs)
without-all P test [] h = tt
without-all P test (r ∷ rs) h = go (without-all P test rs h.1) (test r)
  where
    go : AllByRecursion P (without_first test rs) → (b : Bool) → AllByRecursion P (cond b rs (r ∷ without_first test rs))
    go ih true = h.1
    go ih false = (h.0, ih)

pub without-rising : (test : Root → Bool) (rs : List Root) → Rising rs → Rising (without_first test rs)
without-rising test [] h = tt
without-rising test (r ∷ rs) h = go (without-rising test rs h.1) (test r)
  where
    go : Rising (without_first test rs) → (b : Bool) → Rising (cond b rs (r ∷ without_first test rs))
    go ih true = h.1
    go ih false = (without-all (Before r) test rs h.0, ih)

pub kept-all : (P : Root → Type 0) (p : Root → Bool) (rs : List Root) → AllByRecursion P rs → AllByRecursion P (filter p rs)
kept-all P p [] h = tt
kept-all P p (r ∷ rs) h = go (kept-all P p rs h.1) (p r)
  where
    go : AllByRecursion P (filter p rs) → (b : Bool) → AllByRecursion P (cond b (r ∷ filter p rs) (filter p rs))
    go ih true = (h.0, ih)
    go ih false = ih

pub kept-rising : (p : Root → Bool) (rs : List Root) → Rising rs → Rising (filter p rs)
kept-rising p [] h = tt
kept-rising p (r ∷ rs) h = go (kept-rising p rs h.1) (p r)
  where
    go : Rising (filter p rs) → (b : Bool) → Rising (cond b (r ∷ filter p rs) (filter p rs))
    go ih true = (kept-all (Before r) p rs h.0, ih)
    go ih false = ih
