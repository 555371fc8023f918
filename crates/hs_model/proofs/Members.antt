-- Members of a list by recursion, and the tests that find them.
use Rattle.std.proofs.Common.{◌≡◌, ℕ, ◌<◌, ◌⊎◌, inl, inr, List, [], ◌∷◌, ◌++◌, zero, suc, length, map, filter, Bool, true, false, cond, refl, sym, ap, ◌∙◌, subst, arith, Contains, slice_index_or}
use Rattle.std.proofs.lemmas.Grind.{common_steps}
use Rattle.std.proofs.lemmas.Slice.Eq.{bytes_eq-Decides}
use Rattle.std.proofs.lemmas.Map.Text.{is_eq-slice_cmp}
use Rattle.std.specs.BTreeMap.{is_at}
use Rattle.hs_limits.specs.declared.address.Address.{Address}
use Rattle.hs_model.specs.Reach.{is_same, is_among}
use Rattle.hs_model.specs.Store.{address_cmp}

abbrev pub Member : {X : Type 0} → X → List X → Type 0
Member x [] = ⊥
Member x (y ∷ ys) = (x ≡ y) ⊎ Member x ys

-- ---- between a member and an element at an index

pub contains-head : {X : Type 0} (x : X) (xs : List X) → Contains (x ∷ xs) x
contains-head x xs = (0, grind (arith, common_steps), refl)

pub contains-tail : {X : Type 0} (y x : X) (xs : List X) → Contains xs x → Contains (y ∷ xs) x
contains-tail y x xs h = (suc h.0, grind (arith, common_steps, h.1), h.2)

pub contains_from_member : {X : Type 0} (x : X) (xs : List X) → Member x xs → Contains xs x
contains_from_member x [] h = elim h [ ]
contains_from_member x (y ∷ ys) (inl e) = subst (λ z. Contains (z ∷ ys) x) e (contains-head x ys)
contains_from_member x (y ∷ ys) (inr h) = contains-tail y x ys (contains_from_member x ys h)

member_at : {X : Type 0} (x : X) (xs : List X) (k : ℕ) → k < length xs → slice_index_or xs k x ≡ x → Member x xs
member_at x [] k h e = absurd (omega (arith, h))
member_at x (y ∷ ys) zero h e = inl (sym e)
member_at x (y ∷ ys) (suc k) h e = inr (member_at x ys k (grind (arith, common_steps, h)) e)

pub member_from_contains : {X : Type 0} (x : X) (xs : List X) → Contains xs x → Member x xs
member_from_contains x xs h = member_at x xs h.0 h.1 h.2

-- ---- appended, mapped and filtered lists

pub member-append_left : {X : Type 0} (x : X) (xs ys : List X) → Member x xs → Member x (xs ++ ys)
member-append_left x [] ys h = elim h [ ]
member-append_left x (z ∷ xs) ys (inl e) = inl e
member-append_left x (z ∷ xs) ys (inr h) = inr (member-append_left x xs ys h)

pub member-append_right : {X : Type 0} (x : X) (xs ys : List X) → Member x ys → Member x (xs ++ ys)
member-append_right x [] ys h = h
member-append_right x (z ∷ xs) ys h = inr (member-append_right x xs ys h)

pub member-append : {X : Type 0} (x : X) (xs ys : List X) → Member x (xs ++ ys) → Member x xs ⊎ Member x ys
member-append x [] ys h = inr h
member-append x (z ∷ xs) ys (inl e) = inl (inl e)
member-append x (z ∷ xs) ys (inr h) = elim (member-append x xs ys h) [ inl m ↦ inl (inr m) | inr m ↦ inr m ]

pub member-map : {X Y : Type 0} (f : X → Y) (x : X) (xs : List X) → Member x xs → Member (f x) (map f xs)
member-map f x [] h = elim h [ ]
member-map f x (y ∷ ys) (inl e) = inl (ap f e)
member-map f x (y ∷ ys) (inr h) = inr (member-map f x ys h)

pub member_of_map : {X Y : Type 0} (f : X → Y) (y : Y) (xs : List X) → Member y (map f xs) → (x : X) × Member x xs × (y ≡ f x)
member_of_map f y [] h = elim h [ ]
member_of_map f y (x ∷ xs) (inl e) = (x, inl refl, e)
member_of_map f y (x ∷ xs) (inr h) = let r = member_of_map f y xs h in (r.0, inr r.1, r.2)

pub member-filter : {X : Type 0} (p : X → Bool) (x : X) (xs : List X) → Member x xs → p x ≡ true → Member x (filter p xs)
member-filter p x [] h t = elim h [ ]
member-filter p x (y ∷ ys) (inl e) t = rw (sym (ap p e) ∙ t) (inl e)
member-filter p x (y ∷ ys) (inr h) t = go (p y) (member-filter p x ys h t)
  where
    go : (b : Bool) → Member x (filter p ys) → Member x (cond b (y ∷ filter p ys) (filter p ys))
    go true m = inr m
    go false m = m

pub member_of_filter : {X : Type 0} (p : X → Bool) (x : X) (xs : List X) → Member x (filter p xs) → Member x xs × (p x ≡ true)
member_of_filter p x [] h = elim h [ ]
member_of_filter p x (y ∷ ys) h = go (member_of_filter p x ys) (p y) refl h
  where
    go : (Member x (filter p ys) → Member x ys × (p x ≡ true)) → (b : Bool) → p y ≡ b → Member x (cond b (y ∷ filter p ys) (filter p ys)) → Member x (y ∷ ys) × (p x ≡ true)
    go ih true t (inl e) = (inl e, ap p e ∙ t)
    go ih true t (inr m) = let r = ih m in (inr r.0, r.1)
    go ih false t m = let r = ih m in (inr r.0, r.1)

-- ---- addresses

pub same-refl : (a : Address) → is_same a a ≡ true
same-refl a = (bytes_eq-Decides a.0 a.0).1 refl

pub same_from : (a b : Address) → is_same a b ≡ true → a ≡ b
same_from a b h = λ i. record { 0 = (bytes_eq-Decides a.0 b.0).0 h i }

-- a map finds an address where it is the same
pub at_is_same : (a b : Address) → is_at (address_cmp a) b ≡ is_same a b
at_is_same a b = is_eq-slice_cmp a.0 b.0

pub among_from_member : (a : Address) (xs : List Address) → Member a xs → is_among xs a ≡ true
among_from_member a [] h = elim h [ ]
among_from_member a (x ∷ xs) (inl e) = subst (λ z. is_among (z ∷ xs) a ≡ true) e (rw (same-refl a))
among_from_member a (x ∷ xs) (inr h) = rw (among_from_member a xs h) (grind (arith, common_steps))

pub member_from_among : (a : Address) (xs : List Address) → is_among xs a ≡ true → Member a xs
member_from_among a [] h = cc
member_from_among a (x ∷ xs) h = go (member_from_among a xs) (is_same a x) refl
  where
    go : (is_among xs a ≡ true → Member a xs) → (b : Bool) → is_same a x ≡ b → Member a (x ∷ xs)
    go ih true e = inl (same_from a x e)
    go ih false e = inr (ih (rw e at h))
