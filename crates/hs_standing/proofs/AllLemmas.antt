-- What holds of each of some stays so where one comes, goes or changes.
use Rattle.std.proofs.Common.{◌≡◌, subst, ℕ, zero, suc, Bool, true, false, cond, List, [], ◌∷◌, ◌++◌, filter, map, Some, Ordering, Less, Equal, Greater}
use Rattle.std.specs.BTreeMap.{insert_entry}
use Rattle.std.specs.List.{AllByRecursion}
use Rattle.std.specs.Map.{lookup, remove_entry, set_value}
use Rattle.std.specs.Ordering.{match_ordering}
use Rattle.std.specs.Prelude.{slice_index_or, slice_set}

pub some_is : {A : Type 0} (x y : A) → Some x ≡ Some y → x ≡ y
some_is x y e = cc e

-- ---- lists

module _ {X : Type 0} (P : X → Type 0) where
  pub all_append : (xs ys : List X) → AllByRecursion P xs → AllByRecursion P ys → AllByRecursion P (xs ++ ys)
  all_append [] ys h k = k
  all_append (x ∷ xs) ys h k = (h.0, all_append xs ys h.1 k)

  pub all_filter : (test : X → Bool) (xs : List X) → AllByRecursion P xs → AllByRecursion P (filter test xs)
  all_filter test [] h = tt
  all_filter test (x ∷ xs) h = go (test x) (all_filter test xs h.1)
    where
      go : (b : Bool) → AllByRecursion P (filter test xs) → AllByRecursion P (cond b (x ∷ filter test xs) (filter test xs))
      go true ih = (h.0, ih)
      go false ih = ih

  pub all_map : {Y : Type 0} (Q : Y → Type 0) (f : Y → X) → ((y : Y) → Q y → P (f y)) → (ys : List Y) → AllByRecursion Q ys → AllByRecursion P (map f ys)
  all_map Q f keeps [] h = tt
  all_map Q f keeps (y ∷ ys) h = (keeps y h.0, all_map Q f keeps ys h.1)

  pub all_set : (xs : List X) (k : ℕ) (d : X) → P d → AllByRecursion P xs → AllByRecursion P (slice_set xs k d)
  all_set [] k d p h = tt
  all_set (x ∷ xs) zero d p h = (p, h.1)
  all_set (x ∷ xs) (suc k) d p h = (h.0, all_set xs k d p h.1)

  pub all_index : (xs : List X) (k : ℕ) (none : X) → P none → AllByRecursion P xs → P (slice_index_or xs k none)
  all_index [] k none p h = p
  all_index (x ∷ xs) zero none p h = h.0
  all_index (x ∷ xs) (suc k) none p h = all_index xs k none p h.1

-- ---- maps: what holds of each key with its value

module _ {K V : Type 0} (R : K → V → Type 0) where
  abbrev pub Each : List (K × V) → Type 0
  Each es = AllByRecursion (λ (e : K × V). R e.0 e.1) es

  pub each_insert : (cmp : K → K → Ordering) (es : List (K × V)) (k : K) (v : V) → R k v → ((x : K) (old : V) → R x old → R x v) → Each es → Each (insert_entry cmp es k v)
  each_insert cmp [] k v r put h = (r, tt)
  each_insert cmp (e ∷ es) k v r put h = go (cmp k e.0) (each_insert cmp es k v r put h.1)
    where
      go : (o : Ordering) → Each (insert_entry cmp es k v) → Each (match_ordering o ((k, v) ∷ e ∷ es) ((e.0, v) ∷ es) (e ∷ insert_entry cmp es k v))
      go Less ih = (r, h)
      go Equal ih = (put e.0 e.1 h.0, h.1)
      go Greater ih = (h.0, ih)

  pub each_set : (test : K → Bool) (es : List (K × V)) (v : V) → ((x : K) (old : V) → R x old → R x v) → Each es → Each (set_value test es v)
  each_set test [] v put h = tt
  each_set test (e ∷ es) v put h = go (test e.0) (each_set test es v put h.1)
    where
      go : (b : Bool) → Each (set_value test es v) → Each (cond b ((e.0, v) ∷ es) (e ∷ set_value test es v))
      go true ih = (put e.0 e.1 h.0, h.1)
      go false ih = (h.0, ih)

  pub each_remove : (test : K → Bool) (es : List (K × V)) → Each es → Each (remove_entry test es)
  each_remove test [] h = tt
  each_remove test (e ∷ es) h = go (test e.0) (each_remove test es h.1)
    where
      go : (b : Bool) → Each (remove_entry test es) → Each (cond b es (e ∷ remove_entry test es))
      go true ih = h.1
      go false ih = (h.0, ih)

  -- what is found has it
  pub each_found : (test : K → Bool) (es : List (K × V)) (v : V) → lookup test es ≡ Some v → Each es → (k : K) × R k v
  each_found test [] v e h = absurd (cc e)
  each_found test (x ∷ es) v e h = go (test x.0) e (λ f. each_found test es v f h.1)
    where
      go : (b : Bool) → cond b (Some x.1) (lookup test es) ≡ Some v → (lookup test es ≡ Some v → (k : K) × R k v) → (k : K) × R k v
      go true f ih = (x.0, subst (λ y. R x.0 y) (some_is x.1 v f) h.0)
      go false f ih = ih f
