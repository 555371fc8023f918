-- Entries in the order of their keys: mapped, put together, and given another value.
use Rattle.std.proofs.Common.{◌≡◌, List, [], ◌∷◌, map, Bool, true, false, cond, Some, None, refl, ap, Ordering, Less, Equal, Greater, is_eq}
use Rattle.std.proofs.lemmas.Map.Keys.{sorted_head, sorted_tail}
use Rattle.std.specs.BTreeMap.{insert_entry, is_at}
use Rattle.std.specs.Cmp.{IsTotalOrder}
use Rattle.std.specs.List.{AllByRecursion}
use Rattle.std.specs.List.Sorted.{IsStrictlySortedBy}
use Rattle.std.specs.Map.{keys_of, lookup, set_value}
use Rattle.std.specs.Ordering.{match_ordering}

module _ {K V W : Type 0} where
  pub map-insert_entry : (g : V → W) (cmp : K → K → Ordering) (es : List (K × V)) (k : K) (v : V) → map (λ e. (e.0, g e.1)) (insert_entry cmp es k v) ≡ insert_entry cmp (map (λ e. (e.0, g e.1)) es) k (g v)
  map-insert_entry g cmp [] k v = refl
  map-insert_entry g cmp (x ∷ es) k v = go (map-insert_entry g cmp es k v) (cmp k x.0)
    where
      go : map (λ e. (e.0, g e.1)) (insert_entry cmp es k v) ≡ insert_entry cmp (map (λ e. (e.0, g e.1)) es) k (g v)
          → (o : Ordering) → map (λ (e : K × V). (e.0, g e.1)) (match_ordering o ((k, v) ∷ x ∷ es) ((x.0, v) ∷ es) (x ∷ insert_entry cmp es k v))
          ≡ match_ordering o ((k, g v) ∷ (x.0, g x.1) ∷ map (λ e. (e.0, g e.1)) es) ((x.0, g v) ∷ map (λ e. (e.0, g e.1)) es) ((x.0, g x.1) ∷ insert_entry cmp (map (λ e. (e.0, g e.1)) es) k (g v))
      go ih Less = refl
      go ih Equal = refl
      go ih Greater = ap (λ rest. (x.0, g x.1) ∷ rest) ih

  pub map-set_value : (g : V → W) (test : K → Bool) (es : List (K × V)) (w : V) → map (λ e. (e.0, g e.1)) (set_value test es w) ≡ set_value test (map (λ e. (e.0, g e.1)) es) (g w)
  map-set_value g test [] w = refl
  map-set_value g test (x ∷ es) w = go (map-set_value g test es w) (test x.0)
    where
      go : map (λ e. (e.0, g e.1)) (set_value test es w) ≡ set_value test (map (λ e. (e.0, g e.1)) es) (g w)
          → (b : Bool) → map (λ (e : K × V). (e.0, g e.1)) (cond b ((x.0, w) ∷ es) (x ∷ set_value test es w))
          ≡ cond b ((x.0, g w) ∷ map (λ e. (e.0, g e.1)) es) ((x.0, g x.1) ∷ set_value test (map (λ e. (e.0, g e.1)) es) (g w))
      go ih true = refl
      go ih false = ap (λ rest. (x.0, g x.1) ∷ rest) ih

less-all : {K : Type 0} (cmp : K → K → Ordering) → IsTotalOrder cmp → (k x : K) (ks : List K) → cmp k x ≡ Less → AllByRecursion (λ y. cmp x y ≡ Less) ks → AllByRecursion (λ y. cmp k y ≡ Less) ks
less-all cmp o k x [] l h = tt
less-all cmp o k x (y ∷ ks) l h = (o.trans k x y l h.0, less-all cmp o k x ks l h.1)

module _ {K V : Type 0} where
  pub lookup-below : (cmp : K → K → Ordering) (k : K) (es : List (K × V)) → AllByRecursion (λ y. cmp k y ≡ Less) (keys_of es) → lookup (is_at (cmp k)) es ≡ None
  lookup-below cmp k [] h = refl
  lookup-below cmp k (x ∷ es) h = rw h.0 (lookup-below cmp k es h.1)

  -- a key that is there gets the value
  pub insert-present : (cmp : K → K → Ordering) → IsTotalOrder cmp → (es : List (K × V)) (k : K) (v w : V) → IsStrictlySortedBy cmp (keys_of es) → lookup (is_at (cmp k)) es ≡ Some v → insert_entry cmp es k w ≡ set_value (is_at (cmp k)) es w
  insert-present cmp o [] k v w d h = cc h
  insert-present cmp o (x ∷ es) k v w d h = go (insert-present cmp o es k v w (sorted_tail cmp x.0 (keys_of es) d)) (cmp k x.0) refl h
    where
      go : (lookup (is_at (cmp k)) es ≡ Some v → insert_entry cmp es k w ≡ set_value (is_at (cmp k)) es w)
          → (r : Ordering) → cmp k x.0 ≡ r → cond (is_eq r) (Some x.1) (lookup (is_at (cmp k)) es) ≡ Some v
          → match_ordering r ((k, w) ∷ x ∷ es) ((x.0, w) ∷ es) (x ∷ insert_entry cmp es k w) ≡ cond (is_eq r) ((x.0, w) ∷ es) (x ∷ set_value (is_at (cmp k)) es w)
      go ih Less e h = let none = lookup-below cmp k es (less-all cmp o k x.0 (keys_of es) e (sorted_head cmp x.0 (keys_of es) d)) in cc (none, h)
      go ih Equal e h = refl
      go ih Greater e h = ap (λ rest. x ∷ rest) (ih h)

  -- a key below all others goes to the front
  insert-first : (cmp : K → K → Ordering) (k : K) (v : V) (es : List (K × V)) → AllByRecursion (λ y. cmp k y ≡ Less) (keys_of es) → insert_entry cmp es k v ≡ (k, v) ∷ es
  insert-first cmp k v [] h = refl
  insert-first cmp k v (x ∷ es) h = rw h.0 refl

  pub insert-head : (cmp : K → K → Ordering) (e : K × V) (es : List (K × V)) → IsStrictlySortedBy cmp (keys_of (e ∷ es)) → insert_entry cmp es e.0 e.1 ≡ e ∷ es
  insert-head cmp e es d = insert-first cmp e.0 e.1 es (sorted_head cmp e.0 (keys_of es) d)
