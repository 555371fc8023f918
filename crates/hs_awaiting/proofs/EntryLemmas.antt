-- An entry of a map that is written twice, or written and taken out, and what is found afterwards.
use Rattle.std.proofs.Common.{◌≡◌, ◌∙◌, sym, ap, ℕ, Bool, true, false, cond, List, [], ◌∷◌, Some, None, option_map, refl, Ordering, Less, Equal, Greater, nat_cmp}
use Rattle.std.proofs.lemmas.Cmp.{nat_cmp_total}
use Rattle.std.specs.BTreeMap.{insert_entry, is_at}
use Rattle.std.specs.Map.{lookup, remove_entry, set_value}
use Rattle.std.specs.Ordering.{is_eq, match_ordering, ordering_reverse}

module _ {K X : Type 0} (test : K → Bool) where
  pub set_twice : (es : List (K × X)) (v w : X) → set_value test (set_value test es v) w ≡ set_value test es w
  set_twice [] v w = refl
  set_twice (e ∷ es) v w = go (test e.0) refl (set_twice es v w)
    where
      go : (b : Bool) → test e.0 ≡ b → set_value test (set_value test es v) w ≡ set_value test es w
          → set_value test (cond b ((e.0, v) ∷ es) (e ∷ set_value test es v)) w ≡ cond b ((e.0, w) ∷ es) (e ∷ set_value test es w)
      go true t ih = rw t refl
      go false t ih = rw t (ap (λ rest. e ∷ rest) ih)

  pub remove_set : (es : List (K × X)) (v : X) → remove_entry test (set_value test es v) ≡ remove_entry test es
  remove_set [] v = refl
  remove_set (e ∷ es) v = go (test e.0) refl (remove_set es v)
    where
      go : (b : Bool) → test e.0 ≡ b → remove_entry test (set_value test es v) ≡ remove_entry test es
          → remove_entry test (cond b ((e.0, v) ∷ es) (e ∷ set_value test es v)) ≡ cond b es (e ∷ remove_entry test es)
      go true t ih = rw t refl
      go false t ih = rw t (ap (λ rest. e ∷ rest) ih)

  pub find_set : (es : List (K × X)) (v w : X) → lookup test es ≡ Some v → lookup test (set_value test es w) ≡ Some w
  find_set [] v w h = cc h
  find_set (e ∷ es) v w h = go (test e.0) refl h (find_set es v w)
    where
      go : (b : Bool) → test e.0 ≡ b → cond b (Some e.1) (lookup test es) ≡ Some v
          → (lookup test es ≡ Some v → lookup test (set_value test es w) ≡ Some w)
          → lookup test (cond b ((e.0, w) ∷ es) (e ∷ set_value test es w)) ≡ Some w
      go true t h ih = rw t refl
      go false t h ih = rw t (ih h)

  -- where a part of the value stays, so does that part of what any test finds
  pub part_set : {Y : Type 0} (part : X → Y) (other : K → Bool) (es : List (K × X)) (v w : X) → lookup test es ≡ Some v → part w ≡ part v
      → option_map part (lookup other (set_value test es w)) ≡ option_map part (lookup other es)
  part_set part other [] v w h q = refl
  part_set {Y} part other (e ∷ es) v w h q = go (test e.0) h (part_set part other es v w)
    where
      here : (c : Bool) (x : X) → x ≡ v → option_map part (cond c (Some w) (lookup other es)) ≡ option_map part (cond c (Some x) (lookup other es))
      here true x s = ap Some (q ∙ ap part (sym s))
      here false x s = refl

      past : (c : Bool) → option_map part (lookup other (set_value test es w)) ≡ option_map part (lookup other es)
          → option_map part (cond c (Some e.1) (lookup other (set_value test es w))) ≡ option_map part (cond c (Some e.1) (lookup other es))
      past true ih = refl
      past false ih = ih

      go : (b : Bool) → cond b (Some e.1) (lookup test es) ≡ Some v
          → (lookup test es ≡ Some v → part w ≡ part v → option_map part (lookup other (set_value test es w)) ≡ option_map part (lookup other es))
          → option_map part (lookup other (cond b ((e.0, w) ∷ es) (e ∷ set_value test es w))) ≡ option_map part (cond (other e.0) (Some e.1) (lookup other es))
      go true h ih = let s : e.1 ≡ v = cc h in here (other e.0) e.1 s
      go false h ih = past (other e.0) (ih h q)

module _ {K X : Type 0} (cmp : K → K → Ordering) (k : K) (same : cmp k k ≡ Equal) where
  pub insert_set_by : (es : List (K × X)) (v w : X) → set_value (is_at (cmp k)) (insert_entry cmp es k v) w ≡ insert_entry cmp es k w
  insert_set_by [] v w = rw same refl
  insert_set_by (e ∷ es) v w = go (cmp k e.0) refl (insert_set_by es v w)
    where
      go : (r : Ordering) → cmp k e.0 ≡ r → set_value (is_at (cmp k)) (insert_entry cmp es k v) w ≡ insert_entry cmp es k w
          → set_value (is_at (cmp k)) (match_ordering r ((k, v) ∷ e ∷ es) ((e.0, v) ∷ es) (e ∷ insert_entry cmp es k v)) w
          ≡ match_ordering r ((k, w) ∷ e ∷ es) ((e.0, w) ∷ es) (e ∷ insert_entry cmp es k w)
      go Less t ih = rw same refl
      go Equal t ih = rw t refl
      go Greater t ih = rw t (ap (λ rest. e ∷ rest) ih)

  pub find_insert_by : (es : List (K × X)) (v : X) → lookup (is_at (cmp k)) (insert_entry cmp es k v) ≡ Some v
  find_insert_by [] v = rw same refl
  find_insert_by (e ∷ es) v = go (cmp k e.0) refl (find_insert_by es v)
    where
      go : (r : Ordering) → cmp k e.0 ≡ r → lookup (is_at (cmp k)) (insert_entry cmp es k v) ≡ Some v
          → lookup (is_at (cmp k)) (match_ordering r ((k, v) ∷ e ∷ es) ((e.0, v) ∷ es) (e ∷ insert_entry cmp es k v)) ≡ Some v
      go Less t ih = rw same refl
      go Equal t ih = rw t refl
      go Greater t ih = rw t ih

  -- what was put where nothing stood is taken out again
  pub remove_insert_by : (es : List (K × X)) (v : X) → lookup (is_at (cmp k)) es ≡ None → remove_entry (is_at (cmp k)) (insert_entry cmp es k v) ≡ es
  remove_insert_by [] v none = rw same refl
  remove_insert_by (e ∷ es) v none = go (cmp k e.0) refl none (remove_insert_by es v)
    where
      go : (r : Ordering) → cmp k e.0 ≡ r → cond (is_eq r) (Some e.1) (lookup (is_at (cmp k)) es) ≡ None
          → (lookup (is_at (cmp k)) es ≡ None → remove_entry (is_at (cmp k)) (insert_entry cmp es k v) ≡ es)
          → remove_entry (is_at (cmp k)) (match_ordering r ((k, v) ∷ e ∷ es) ((e.0, v) ∷ es) (e ∷ insert_entry cmp es k v)) ≡ e ∷ es
      go Less t none ih = rw same refl
      go Equal t none ih = cc none
      go Greater t none ih = rw t (ap (λ rest. e ∷ rest) (ih none))

-- the same by number
same_number : (k : ℕ) → nat_cmp k k ≡ Equal
same_number k = go (nat_cmp k k) (nat_cmp_total.antisymm k k)
  where
    go : (r : Ordering) → r ≡ ordering_reverse r → r ≡ Equal
    go Less h = cc h
    go Equal h = refl
    go Greater h = cc h

pub insert_set : {X : Type 0} (k : ℕ) (es : List (ℕ × X)) (v w : X) → set_value (is_at (nat_cmp k)) (insert_entry nat_cmp es k v) w ≡ insert_entry nat_cmp es k w
insert_set k es v w = insert_set_by nat_cmp k (same_number k) es v w

pub find_insert : {X : Type 0} (k : ℕ) (es : List (ℕ × X)) (v : X) → lookup (is_at (nat_cmp k)) (insert_entry nat_cmp es k v) ≡ Some v
find_insert k es v = find_insert_by nat_cmp k (same_number k) es v

pub remove_insert : {X : Type 0} (k : ℕ) (es : List (ℕ × X)) (v : X) → lookup (is_at (nat_cmp k)) es ≡ None → remove_entry (is_at (nat_cmp k)) (insert_entry nat_cmp es k v) ≡ es
remove_insert k es v none = remove_insert_by nat_cmp k (same_number k) es v none
