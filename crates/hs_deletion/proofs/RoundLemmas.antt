-- How often addresses stand in lists, and in what some blocks and roots name.
use Rattle.std.proofs.Common.{◌≡◌, ◌+◌, ◌<◌, Bool, true, false, cond, List, [], ◌∷◌, ◌++◌, inl, inr, refl, ◌∙◌, arith, filter, flat_map, length, sum_by, count_by}
use Rattle.std.proofs.lemmas.List.Sums.{sum_by-cons, sum_by-append, length-filter}
use Rattle.hs_limits.specs.declared.address.Address.{Address}
use Rattle.hs_model.specs.Reach.{is_same}
use Rattle.hs_model.proofs.Members.{member-append, member_of_filter, same-refl, same_from}
use Rattle.hs_deletion.specs.Reached.{Member}
use Rattle.hs_deletion.specs.Records.{BlockRecord, RootRecord}
use Rattle.hs_deletion.specs.Rounds.{times, pointers_where, addresses_where}
use Rattle.hs_deletion.proofs.SumLemmas.{some_of_sum_by}

pub times_none : (a : Address) → times a [] ≡ 0
unfolding times
times_none a = refl

pub times_append : (a : Address) (xs ys : List Address) → times a (xs ++ ys) ≡ times a xs + times a ys
unfolding times
times_append a xs ys = sum_by-append (λ x. cond (is_same a x) 1 0) xs ys

pub times_member : (a : Address) (xs : List Address) → Member a xs → 0 < times a xs
unfolding times
times_member a [] m = elim m [ ]
times_member a (x ∷ xs) (inl e) = omega (arith, one (is_same a x) (rw (← e) (same-refl a)), sum_by-cons (λ x. cond (is_same a x) 1 0) x xs)
  where
    one : (t : Bool) → t ≡ true → 0 < cond t 1 0
    one true e = omega arith
    one false e = cc
times_member a (x ∷ xs) (inr m) = omega (arith, times_member a xs m, sum_by-cons (λ x. cond (is_same a x) 1 0) x xs)

pub member_of_times : (a : Address) (xs : List Address) → 0 < times a xs → Member a xs
unfolding times
member_of_times a xs h = let s = some_of_sum_by (λ x. cond (is_same a x) 1 0) xs h in let e : a ≡ s.0 = same_from a s.0 (passes (is_same a s.0) s.2) in rw e s.1
  where
    passes : (t : Bool) → 0 < cond t 1 0 → t ≡ true
    passes true h = refl
    passes false h = absurd (omega (arith, h))

-- ---- what each of some names

pub times_flat_map : {X : Type 0} (a : Address) (f : X → List Address) (xs : List X) → times a (flat_map f xs) ≡ sum_by (λ x. times a (f x)) xs
times_flat_map a f [] = times_none a
times_flat_map a f (x ∷ xs) = omega (arith, times_append a (f x) (flat_map f xs), times_flat_map a f xs, sum_by-cons (λ x. times a (f x)) x xs)

member_of_flat_map : {X : Type 0} (a : Address) (f : X → List Address) (xs : List X) → Member a (flat_map f xs) → (x : X) × Member x xs × Member a (f x)
member_of_flat_map a f [] m = elim m [ ]
member_of_flat_map a f (x ∷ xs) m = elim (member-append a (f x) (flat_map f xs) m) [ inl l ↦ (x, inl refl, l) | inr r ↦ (let k = member_of_flat_map a f xs r in (k.0, inr k.1, k.2)) ]

filter_none : {X : Type 0} (test : X → Bool) (xs : List X) → count_by test xs ≡ 0 → filter test xs ≡ []
filter_none test xs e = go (filter test xs) (length-filter test xs ∙ e)
  where
    go : {X : Type 0} (ys : List X) → length ys ≡ 0 → ys ≡ []
    go [] l = refl
    go (y ∷ ys) l = absurd (omega (arith, l))

-- ---- of blocks and roots

pub times_pointers_where : (a : Address) (test : BlockRecord → Bool) (blocks : List BlockRecord) → times a (pointers_where test blocks) ≡ sum_by (λ b. times a b.pointers) (filter test blocks)
unfolding pointers_where
times_pointers_where a test blocks = times_flat_map a (λ b. b.pointers) (filter test blocks)

pub times_addresses_where : (a : Address) (test : RootRecord → Bool) (roots : List RootRecord) → times a (addresses_where test roots) ≡ sum_by (λ r. times a r.addresses) (filter test roots)
unfolding addresses_where
times_addresses_where a test roots = times_flat_map a (λ r. r.addresses) (filter test roots)

-- where none passes nothing is named
pub pointers_where_none : (test : BlockRecord → Bool) (blocks : List BlockRecord) → count_by test blocks ≡ 0 → pointers_where test blocks ≡ []
unfolding pointers_where
pointers_where_none test blocks e = rw (filter_none test blocks e) refl

pub addresses_where_none : (test : RootRecord → Bool) (roots : List RootRecord) → count_by test roots ≡ 0 → addresses_where test roots ≡ []
unfolding addresses_where
addresses_where_none test roots e = rw (filter_none test roots e) refl

-- what is named is named by one that passes
pub member_of_pointers_where : (a : Address) (test : BlockRecord → Bool) (blocks : List BlockRecord) → Member a (pointers_where test blocks) → (b : BlockRecord) × Member b blocks × (test b ≡ true) × Member a b.pointers
unfolding pointers_where
member_of_pointers_where a test blocks m = let k = member_of_flat_map a (λ (b : BlockRecord). b.pointers) (filter test blocks) m in let p = member_of_filter test k.0 blocks k.1 in (k.0, p.0, p.1, k.2)

pub member_of_addresses_where : (a : Address) (test : RootRecord → Bool) (roots : List RootRecord) → Member a (addresses_where test roots) → (r : RootRecord) × Member r roots × (test r ≡ true) × Member a r.addresses
unfolding addresses_where
member_of_addresses_where a test roots m = let k = member_of_flat_map a (λ (r : RootRecord). r.addresses) (filter test roots) m in let p = member_of_filter test k.0 roots k.1 in (k.0, p.0, p.1, k.2)
