-- What is found in a map of which one entry changes, and that no key stands there twice.
use Rattle.std.proofs.Common.{◌≡◌, ◌∙◌, sym, ap, subst, ◌⊎◌, inl, inr, ℕ, Bool, true, false, cond, map, List, [], ◌∷◌, Option, Some, None, refl, Ordering, Less, Equal, Greater, is_eq}
use Rattle.std.proofs.lemmas.Cmp.{nat_cmp_total}
use Rattle.std.proofs.lemmas.Map.Lookups.{exact_unsigned}
use Rattle.std.proofs.lemmas.Map.Text.{is_eq-slice_cmp}
use Rattle.std.proofs.lemmas.Slice.Eq.{bytes_eq-Decides}
use Rattle.std.specs.BTreeMap.{insert_entry, is_at}
use Rattle.std.specs.List.{AllByRecursion}
use Rattle.std.specs.Map.{lookup, remove_entry, set_value}
use Rattle.std.specs.Option.{option_map}
use Rattle.std.specs.Ordering.{match_ordering, nat_cmp, ordering_reverse}
use Rattle.hs_anatomy.specs.Once.{AreOnce}
use Rattle.hs_tokens.specs.Seats.{name_cmp}

-- two keys are one where the order says so
abbrev pub IsExact : {K : Type 0} → (K → K → Ordering) → Type 0
IsExact {K} cmp = (q x : K) → is_at (cmp q) x ≡ true → q ≡ x

pub name_exact : IsExact name_cmp
name_exact q x e = (bytes_eq-Decides q x).0 (sym (is_eq-slice_cmp q x) ∙ e)

pub number_exact : IsExact nat_cmp
number_exact q x e = exact_unsigned q x (equal (nat_cmp q x) e)
  where
    equal : (r : Ordering) → is_eq r ≡ true → r ≡ Equal
    equal Less e = absurd (cc e)
    equal Equal e = refl
    equal Greater e = absurd (cc e)

pub same_number : (k : ℕ) → nat_cmp k k ≡ Equal
same_number k = go (nat_cmp k k) (nat_cmp_total.antisymm k k)
  where
    go : (r : Ordering) → r ≡ ordering_reverse r → r ≡ Equal
    go Less h = cc h
    go Equal h = refl
    go Greater h = cc h

module _ {K : Type 0} (cmp : K → K → Ordering) (exact : IsExact cmp) where
  pub other_at : (q x : K) → (q ≡ x → ⊥) → is_at (cmp q) x ≡ false
  other_at q x d = go (is_at (cmp q) x) refl
    where
      go : (b : Bool) → is_at (cmp q) x ≡ b → is_at (cmp q) x ≡ false
      go true e = absurd (d (exact q x e))
      go false e = e

  module _ {X : Type 0} where
    pub set_other : (es : List (K × X)) (k q : K) (v : X) → (q ≡ k → ⊥) → lookup (is_at (cmp q)) (set_value (is_at (cmp k)) es v) ≡ lookup (is_at (cmp q)) es
    set_other [] k q v d = refl
    set_other (x ∷ es) k q v d = go (is_at (cmp k) x.0) refl (set_other es k q v d)
      where
        go : (b : Bool) → is_at (cmp k) x.0 ≡ b → lookup (is_at (cmp q)) (set_value (is_at (cmp k)) es v) ≡ lookup (is_at (cmp q)) es
            → lookup (is_at (cmp q)) (cond b ((x.0, v) ∷ es) (x ∷ set_value (is_at (cmp k)) es v)) ≡ lookup (is_at (cmp q)) (x ∷ es)
        go true e ih = rw (other_at q x.0 (λ f. d (f ∙ sym (exact k x.0 e)))) refl
        go false e ih = ap (λ r. cond (is_at (cmp q) x.0) (Some x.1) r) ih

    pub remove_other : (es : List (K × X)) (k q : K) → (q ≡ k → ⊥) → lookup (is_at (cmp q)) (remove_entry (is_at (cmp k)) es) ≡ lookup (is_at (cmp q)) es
    remove_other [] k q d = refl
    remove_other (x ∷ es) k q d = go (is_at (cmp k) x.0) refl (remove_other es k q d)
      where
        go : (b : Bool) → is_at (cmp k) x.0 ≡ b → lookup (is_at (cmp q)) (remove_entry (is_at (cmp k)) es) ≡ lookup (is_at (cmp q)) es
            → lookup (is_at (cmp q)) (cond b es (x ∷ remove_entry (is_at (cmp k)) es)) ≡ lookup (is_at (cmp q)) (x ∷ es)
        go true e ih = rw (other_at q x.0 (λ f. d (f ∙ sym (exact k x.0 e)))) refl
        go false e ih = ap (λ r. cond (is_at (cmp q) x.0) (Some x.1) r) ih

    pub insert_other : (es : List (K × X)) (k q : K) (v : X) → (q ≡ k → ⊥) → lookup (is_at (cmp q)) (insert_entry cmp es k v) ≡ lookup (is_at (cmp q)) es
    insert_other [] k q v d = rw (other_at q k d) refl
    insert_other (x ∷ es) k q v d = go (cmp k x.0) refl (insert_other es k q v d)
      where
        go : (o : Ordering) → cmp k x.0 ≡ o → lookup (is_at (cmp q)) (insert_entry cmp es k v) ≡ lookup (is_at (cmp q)) es
            → lookup (is_at (cmp q)) (match_ordering o ((k, v) ∷ x ∷ es) ((x.0, v) ∷ es) (x ∷ insert_entry cmp es k v)) ≡ lookup (is_at (cmp q)) (x ∷ es)
        go Less e ih = rw (other_at q k d) refl
        go Equal e ih = rw (other_at q x.0 (λ f. d (f ∙ sym (exact k x.0 (ap is_eq e))))) refl
        go Greater e ih = ap (λ r. cond (is_at (cmp q) x.0) (Some x.1) r) ih

-- ---- by number

module _ {X : Type 0} where
  pub found_set : (k : ℕ) (es : List (ℕ × X)) (v w : X) → lookup (is_at (nat_cmp k)) es ≡ Some v → lookup (is_at (nat_cmp k)) (set_value (is_at (nat_cmp k)) es w) ≡ Some w
  found_set k [] v w h = absurd (cc h)
  found_set k (e ∷ es) v w h = go (is_at (nat_cmp k) e.0) refl h (found_set k es v w)
    where
      go : (b : Bool) → is_at (nat_cmp k) e.0 ≡ b → cond b (Some e.1) (lookup (is_at (nat_cmp k)) es) ≡ Some v
          → (lookup (is_at (nat_cmp k)) es ≡ Some v → lookup (is_at (nat_cmp k)) (set_value (is_at (nat_cmp k)) es w) ≡ Some w)
          → lookup (is_at (nat_cmp k)) (cond b ((e.0, w) ∷ es) (e ∷ set_value (is_at (nat_cmp k)) es w)) ≡ Some w
      go true t h ih = rw t refl
      go false t h ih = rw t (ih h)

  pub found_insert : (k : ℕ) (es : List (ℕ × X)) (v : X) → lookup (is_at (nat_cmp k)) (insert_entry nat_cmp es k v) ≡ Some v
  found_insert k [] v = rw (same_number k) refl
  found_insert k (e ∷ es) v = go (nat_cmp k e.0) refl (found_insert k es v)
    where
      go : (r : Ordering) → nat_cmp k e.0 ≡ r → lookup (is_at (nat_cmp k)) (insert_entry nat_cmp es k v) ≡ Some v
          → lookup (is_at (nat_cmp k)) (match_ordering r ((k, v) ∷ e ∷ es) ((e.0, v) ∷ es) (e ∷ insert_entry nat_cmp es k v)) ≡ Some v
      go Less t ih = rw (same_number k) refl
      go Equal t ih = rw t refl
      go Greater t ih = rw t ih

  -- ---- no key twice

  none_set : (k : ℕ) (es : List (ℕ × X)) (test : ℕ → Bool) (w : X) → lookup (is_at (nat_cmp k)) es ≡ None → lookup (is_at (nat_cmp k)) (set_value test es w) ≡ None
  none_set k [] test w h = refl
  none_set k (e ∷ es) test w h = go (test e.0) (is_at (nat_cmp k) e.0) refl h (none_set k es test w)
    where
      go : (t b : Bool) → is_at (nat_cmp k) e.0 ≡ b → cond b (Some e.1) (lookup (is_at (nat_cmp k)) es) ≡ None
          → (lookup (is_at (nat_cmp k)) es ≡ None → lookup (is_at (nat_cmp k)) (set_value test es w) ≡ None)
          → lookup (is_at (nat_cmp k)) (cond t ((e.0, w) ∷ es) (e ∷ set_value test es w)) ≡ None
      go t true i h ih = absurd (cc h)
      go true false i h ih = rw i h
      go false false i h ih = rw i (ih h)

  pub once_set : (k : ℕ) (es : List (ℕ × X)) (w : X) → AreOnce es → AreOnce (set_value (is_at (nat_cmp k)) es w)
  once_set k [] w h = tt
  once_set k (e ∷ es) w h = go (is_at (nat_cmp k) e.0) (once_set k es w h.1)
    where
      go : (b : Bool) → AreOnce (set_value (is_at (nat_cmp k)) es w) → AreOnce (cond b ((e.0, w) ∷ es) (e ∷ set_value (is_at (nat_cmp k)) es w))
      go true ih = h
      go false ih = (none_set e.0 es (is_at (nat_cmp k)) w h.0, ih)

  none_remove : (k : ℕ) (es : List (ℕ × X)) (test : ℕ → Bool) → lookup (is_at (nat_cmp k)) es ≡ None → lookup (is_at (nat_cmp k)) (remove_entry test es) ≡ None
  none_remove k [] test h = refl
  none_remove k (e ∷ es) test h = go (test e.0) (is_at (nat_cmp k) e.0) refl h (none_remove k es test)
    where
      go : (t b : Bool) → is_at (nat_cmp k) e.0 ≡ b → cond b (Some e.1) (lookup (is_at (nat_cmp k)) es) ≡ None
          → (lookup (is_at (nat_cmp k)) es ≡ None → lookup (is_at (nat_cmp k)) (remove_entry test es) ≡ None)
          → lookup (is_at (nat_cmp k)) (cond t es (e ∷ remove_entry test es)) ≡ None
      go t true i h ih = absurd (cc h)
      go true false i h ih = h
      go false false i h ih = rw i (ih h)

  pub once_remove : (k : ℕ) (es : List (ℕ × X)) → AreOnce es → AreOnce (remove_entry (is_at (nat_cmp k)) es)
  once_remove k [] h = tt
  once_remove k (e ∷ es) h = go (is_at (nat_cmp k) e.0) (once_remove k es h.1)
    where
      go : (b : Bool) → AreOnce (remove_entry (is_at (nat_cmp k)) es) → AreOnce (cond b es (e ∷ remove_entry (is_at (nat_cmp k)) es))
      go true ih = h.1
      go false ih = (none_remove e.0 es (is_at (nat_cmp k)) h.0, ih)

  pub once_insert : (k : ℕ) (es : List (ℕ × X)) (v : X) → lookup (is_at (nat_cmp k)) es ≡ None → AreOnce es → AreOnce (insert_entry nat_cmp es k v)
  once_insert k [] v new h = (refl, tt)
  once_insert k (e ∷ es) v new h = go (nat_cmp k e.0) refl (is_at (nat_cmp k) e.0) refl new (once_insert k es v)
    where
      go : (r : Ordering) → nat_cmp k e.0 ≡ r → (b : Bool) → is_at (nat_cmp k) e.0 ≡ b → cond b (Some e.1) (lookup (is_at (nat_cmp k)) es) ≡ None
          → (lookup (is_at (nat_cmp k)) es ≡ None → AreOnce es → AreOnce (insert_entry nat_cmp es k v))
          → AreOnce (match_ordering r ((k, v) ∷ e ∷ es) ((e.0, v) ∷ es) (e ∷ insert_entry nat_cmp es k v))
      go r t true i n ih = absurd (cc n)
      go Less t false i n ih = (new, h)
      go Equal t false i n ih = absurd (cc (sym (ap is_eq t) ∙ i))
      go Greater t false i n ih = (insert_other nat_cmp number_exact es k e.0 v (λ d. apart (sym d)) ∙ h.0, ih n h.1)
        where
          apart : k ≡ e.0 → ⊥
          apart d = cc (sym i ∙ ap is_eq (subst (λ x. nat_cmp k x ≡ Equal) d (same_number k)))

  pub gone : (k : ℕ) (es : List (ℕ × X)) → AreOnce es → lookup (is_at (nat_cmp k)) (remove_entry (is_at (nat_cmp k)) es) ≡ None
  gone k [] h = refl
  gone k (e ∷ es) h = go (is_at (nat_cmp k) e.0) refl (gone k es h.1)
    where
      go : (b : Bool) → is_at (nat_cmp k) e.0 ≡ b → lookup (is_at (nat_cmp k)) (remove_entry (is_at (nat_cmp k)) es) ≡ None
          → lookup (is_at (nat_cmp k)) (cond b es (e ∷ remove_entry (is_at (nat_cmp k)) es)) ≡ None
      go true t ih = subst (λ j. lookup (is_at (nat_cmp j)) es ≡ None) (sym (number_exact k e.0 t)) h.0
      go false t ih = rw t ih

  -- each is found under its key
  pub each_found : (es : List (ℕ × X)) → AreOnce es → AllByRecursion (λ (e : ℕ × X). lookup (is_at (nat_cmp e.0)) es ≡ Some e.1) es
  each_found [] h = tt
  each_found (x ∷ es) h = (rw (same_number x.0) refl, later es (each_found es h.1))
    where
      later : (fs : List (ℕ × X)) → AllByRecursion (λ (e : ℕ × X). lookup (is_at (nat_cmp e.0)) es ≡ Some e.1) fs → AllByRecursion (λ (e : ℕ × X). lookup (is_at (nat_cmp e.0)) (x ∷ es) ≡ Some e.1) fs
      later [] all = tt
      later (f ∷ fs) all = (go (is_at (nat_cmp f.0) x.0) refl, later fs all.1)
        where
          go : (b : Bool) → is_at (nat_cmp f.0) x.0 ≡ b → cond b (Some x.1) (lookup (is_at (nat_cmp f.0)) es) ≡ Some f.1
          go false t = all.0
          go true t = absurd (cc (sym (subst (λ j. lookup (is_at (nat_cmp j)) es ≡ Some f.1) (number_exact f.0 x.0 t) all.0) ∙ h.0))

  -- the values changed by themselves
  pub found_map : (f : X → X) (test : ℕ → Bool) (es : List (ℕ × X)) → lookup test (map (λ (e : ℕ × X). (e.0, f e.1)) es) ≡ option_map f (lookup test es)
  found_map f test [] = refl
  found_map f test (e ∷ es) = go (test e.0) (found_map f test es)
    where
      go : (b : Bool) → lookup test (map (λ (e : ℕ × X). (e.0, f e.1)) es) ≡ option_map f (lookup test es)
          → cond b (Some (f e.1)) (lookup test (map (λ (e : ℕ × X). (e.0, f e.1)) es)) ≡ option_map f (cond b (Some e.1) (lookup test es))
      go true ih = refl
      go false ih = ih

  pub once_map : (f : X → X) (es : List (ℕ × X)) → AreOnce es → AreOnce (map (λ (e : ℕ × X). (e.0, f e.1)) es)
  once_map f [] h = tt
  once_map f (e ∷ es) h = (found_map f (is_at (nat_cmp e.0)) es ∙ ap (λ (o : Option X). option_map f o) h.0, once_map f es h.1)

-- ---- two numbers

pub one_or_other : (l k : ℕ) → (l ≡ k) ⊎ (l ≡ k → ⊥)
one_or_other l k = go (is_at (nat_cmp l) k) refl
  where
    go : (b : Bool) → is_at (nat_cmp l) k ≡ b → (l ≡ k) ⊎ (l ≡ k → ⊥)
    go true e = inl (number_exact l k e)
    go false e = inr (λ d. cc (sym e ∙ ap is_eq (subst (λ x. nat_cmp l x ≡ Equal) d (same_number l))))
