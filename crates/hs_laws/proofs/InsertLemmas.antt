-- Lists of entries with one more, or with another value.
use Rattle.std.proofs.Common.{◌≡◌, ◌⊎◌, inl, inr, List, [], ◌∷◌, Bool, true, false, cond, Some, refl, sym, ap, ◌∙◌, subst, Ordering, Less, Equal, Greater, is_eq}
use Rattle.std.specs.Ordering.{match_ordering}
use Rattle.std.specs.BTreeMap.{is_at, insert_entry}
use Rattle.std.specs.Map.{lookup, set_value, remove_entry}
use Rattle.hs_limits.specs.declared.address.Address.{Address}
use Rattle.hs_model.specs.Reach.{is_same}
use Rattle.hs_model.specs.Store.{address_cmp}
use Rattle.hs_model.proofs.Members.{Member, same-refl, same_from, at_is_same}

-- ---- over any keys

pub insert-value : {K V : Type 0} (cmp : K → K → Ordering) (es : List (K × V)) (k : K) (v : V) (e : K × V) → Member e (insert_entry cmp es k v) → (e.1 ≡ v) ⊎ Member e es
insert-value cmp [] k v e (inl h) = inl (ap (λ x. x.1) h)
insert-value cmp [] k v e (inr m) = elim m [ ]
insert-value cmp (x ∷ es) k v e m = go (insert-value cmp es k v e) (cmp k x.0) m
  where
    go : (Member e (insert_entry cmp es k v) → (e.1 ≡ v) ⊎ Member e es) → (o : Ordering) → Member e (match_ordering o ((k, v) ∷ x ∷ es) ((x.0, v) ∷ es) (x ∷ insert_entry cmp es k v)) → (e.1 ≡ v) ⊎ Member e (x ∷ es)
    go ih Less (inl h) = inl (ap (λ x. x.1) h)
    go ih Less (inr n) = inr n
    go ih Equal (inl h) = inl (ap (λ x. x.1) h)
    go ih Equal (inr n) = inr (inr n)
    go ih Greater (inl h) = inr (inl h)
    go ih Greater (inr n) = elim (ih n) [ inl h ↦ inl h | inr q ↦ inr (inr q) ]

pub set-value : {K V : Type 0} (test : K → Bool) (es : List (K × V)) (w : V) (e : K × V) → Member e (set_value test es w) → (e.1 ≡ w) ⊎ Member e es
set-value test [] w e m = elim m [ ]
set-value test (x ∷ es) w e m = go (set-value test es w e) (test x.0) m
  where
    go : (Member e (set_value test es w) → (e.1 ≡ w) ⊎ Member e es) → (b : Bool) → Member e (cond b ((x.0, w) ∷ es) (x ∷ set_value test es w)) → (e.1 ≡ w) ⊎ Member e (x ∷ es)
    go ih true (inl h) = inl (ap (λ x. x.1) h)
    go ih true (inr n) = inr (inr n)
    go ih false (inl h) = inr (inl h)
    go ih false (inr n) = elim (ih n) [ inl h ↦ inl h | inr q ↦ inr (inr q) ]

pub member_of_remove : {K V : Type 0} (test : K → Bool) (es : List (K × V)) (e : K × V) → Member e (remove_entry test es) → Member e es
member_of_remove test [] e m = elim m [ ]
member_of_remove test (x ∷ es) e m = go (member_of_remove test es e) (test x.0) m
  where
    go : (Member e (remove_entry test es) → Member e es) → (b : Bool) → Member e (cond b es (x ∷ remove_entry test es)) → Member e (x ∷ es)
    go ih true n = inr n
    go ih false (inl h) = inl h
    go ih false (inr n) = inr (ih n)

pub entry_from_lookup : {K V : Type 0} (test : K → Bool) (es : List (K × V)) (v : V) → lookup test es ≡ Some v → (e : K × V) × Member e es × (e.1 ≡ v)
entry_from_lookup test [] v h = cc
entry_from_lookup {K = K} {V = V} test (x ∷ es) v h = go (entry_from_lookup test es v) (test x.0) h
  where
    go : (lookup test es ≡ Some v → (e : K × V) × Member e es × (e.1 ≡ v)) → (b : Bool) → cond b (Some x.1) (lookup test es) ≡ Some v → (e : K × V) × Member e (x ∷ es) × (e.1 ≡ v)
    go ih true t = (x, inl refl, cc t)
    go ih false t = let r = ih t in (r.0, inr r.1, r.2)

-- ---- over addresses

pub compare : (a b : Address) (o : Ordering) → address_cmp a b ≡ o → is_same a b ≡ is_eq o
compare a b o e = sym (at_is_same a b) ∙ ap (λ o. is_eq o) e

pub insert-key : {V : Type 0} (es : List (Address × V)) (k : Address) (v : V) (e : Address × V) → Member e (insert_entry address_cmp es k v) → ((e.0 ≡ k) × (e.1 ≡ v)) ⊎ Member e es
insert-key [] k v e (inl h) = inl (ap (λ x. x.0) h, ap (λ x. x.1) h)
insert-key [] k v e (inr m) = elim m [ ]
insert-key (x ∷ es) k v e m = go (insert-key es k v e) (address_cmp k x.0) refl m
  where
    go : (Member e (insert_entry address_cmp es k v) → ((e.0 ≡ k) × (e.1 ≡ v)) ⊎ Member e es) → (o : Ordering) → address_cmp k x.0 ≡ o → Member e (match_ordering o ((k, v) ∷ x ∷ es) ((x.0, v) ∷ es) (x ∷ insert_entry address_cmp es k v)) → ((e.0 ≡ k) × (e.1 ≡ v)) ⊎ Member e (x ∷ es)
    go ih Less c (inl h) = inl (ap (λ x. x.0) h, ap (λ x. x.1) h)
    go ih Less c (inr n) = inr n
    go ih Equal c (inl h) = inl (ap (λ x. x.0) h ∙ sym (same_from k x.0 (compare k x.0 Equal c)), ap (λ x. x.1) h)
    go ih Equal c (inr n) = inr (inr n)
    go ih Greater c (inl h) = inr (inl h)
    go ih Greater c (inr n) = elim (ih n) [ inl h ↦ inl h | inr q ↦ inr (inr q) ]

pub member-insert : {V : Type 0} (es : List (Address × V)) (k : Address) (v : V) (e : Address × V) → Member e es → Member e (insert_entry address_cmp es k v) ⊎ (e.0 ≡ k)
member-insert [] k v e m = elim m [ ]
member-insert (x ∷ es) k v e m = go (member-insert es k v e) (address_cmp k x.0) refl m
  where
    go : (Member e es → Member e (insert_entry address_cmp es k v) ⊎ (e.0 ≡ k)) → (o : Ordering) → address_cmp k x.0 ≡ o → Member e (x ∷ es) → Member e (match_ordering o ((k, v) ∷ x ∷ es) ((x.0, v) ∷ es) (x ∷ insert_entry address_cmp es k v)) ⊎ (e.0 ≡ k)
    go ih Less c n = inl (inr n)
    go ih Equal c (inl h) = inr (ap (λ x. x.0) h ∙ sym (same_from k x.0 (compare k x.0 Equal c)))
    go ih Equal c (inr n) = inl (inr n)
    go ih Greater c (inl h) = inl (inl h)
    go ih Greater c (inr n) = elim (ih n) [ inl q ↦ inl (inr q) | inr h ↦ inr h ]

pub insert-has : {V : Type 0} (es : List (Address × V)) (k : Address) (v : V) → Member (k, v) (insert_entry address_cmp es k v)
insert-has [] k v = inl refl
insert-has (x ∷ es) k v = go (insert-has es k v) (address_cmp k x.0) refl
  where
    go : Member (k, v) (insert_entry address_cmp es k v) → (o : Ordering) → address_cmp k x.0 ≡ o → Member (k, v) (match_ordering o ((k, v) ∷ x ∷ es) ((x.0, v) ∷ es) (x ∷ insert_entry address_cmp es k v))
    go ih Less c = inl refl
    go ih Equal c = inl (ap (λ z. (z, v)) (same_from k x.0 (compare k x.0 Equal c)))
    go ih Greater c = inr ih

pub lookup-insert_same : {V : Type 0} (es : List (Address × V)) (k : Address) (v : V) → lookup (is_at (address_cmp k)) (insert_entry address_cmp es k v) ≡ Some v
lookup-insert_same [] k v = rw (at_is_same k k, same-refl k)
lookup-insert_same (x ∷ es) k v = go (lookup-insert_same es k v) (address_cmp k x.0) refl
  where
    go : lookup (is_at (address_cmp k)) (insert_entry address_cmp es k v) ≡ Some v → (o : Ordering) → address_cmp k x.0 ≡ o → lookup (is_at (address_cmp k)) (match_ordering o ((k, v) ∷ x ∷ es) ((x.0, v) ∷ es) (x ∷ insert_entry address_cmp es k v)) ≡ Some v
    go ih Less c = rw (at_is_same k k, same-refl k)
    go ih Equal c = rw c
    go ih Greater c = rw c ih

pub lookup-insert_other : {V : Type 0} (es : List (Address × V)) (k : Address) (v : V) (b : Address) → is_same b k ≡ false → lookup (is_at (address_cmp b)) (insert_entry address_cmp es k v) ≡ lookup (is_at (address_cmp b)) es
lookup-insert_other [] k v b f = rw (at_is_same b k, f)
lookup-insert_other (x ∷ es) k v b f = go (lookup-insert_other es k v b f) (address_cmp k x.0) refl
  where
    go : lookup (is_at (address_cmp b)) (insert_entry address_cmp es k v) ≡ lookup (is_at (address_cmp b)) es → (o : Ordering) → address_cmp k x.0 ≡ o → lookup (is_at (address_cmp b)) (match_ordering o ((k, v) ∷ x ∷ es) ((x.0, v) ∷ es) (x ∷ insert_entry address_cmp es k v)) ≡ lookup (is_at (address_cmp b)) (x ∷ es)
    go ih Less c = rw (at_is_same b k, f)
    go ih Equal c =
        let other : is_same b x.0 ≡ false = subst (λ z. is_same b z ≡ false) (same_from k x.0 (compare k x.0 Equal c)) f in
        rw (at_is_same b x.0, other)
    go ih Greater c = rw ih
