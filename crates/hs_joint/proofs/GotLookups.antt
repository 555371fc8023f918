-- What stands among Gots, where one more is logged or earlier ones are forgotten.
use Rattle.std.proofs.Common.{◌≡◌, ◌⊎◌, inl, inr, ℕ, zero, suc, ◌+◌, ◌<◌, Bool, true, false, cond, ◌&&◌, [], ◌∷◌, Some, None, refl, sym, ap, ◌∙◌, arith, Ordering, Less, Equal, Greater, is_eq}
use Rattle.std.proofs.lemmas.Bool.{and_parts}
use Rattle.std.specs.BTreeMap.{insert_entry, is_at}
use Rattle.std.specs.List.{list_all, range_with_len}
use Rattle.std.specs.Ordering.{match_ordering}
use Rattle.hs_rounds.specs.declared.body.RoundBody.{RoundBody}
use Rattle.hs_rounds.specs.declared.place.Place.{Place}
use Rattle.hs_rounds.specs.Rounds.{GotList, place_cmp, body_at, is_before, from_round}
use Rattle.hs_rounds.proofs.PlaceLemmas.{same_place, tied_place, found_from, gone_before}

-- what stands at a place is what was logged there, or stood there before
pub logged_or_old : (gots : GotList) (p q : Place) (told body : RoundBody) → body_at q (insert_entry place_cmp gots p told) ≡ Some body → ((q ≡ p) × (told ≡ body)) ⊎ (body_at q gots ≡ Some body)
logged_or_old [] p q told body e = go (is_at (place_cmp q) p) refl e
  where
    go : (t : Bool) → is_at (place_cmp q) p ≡ t → cond t (Some told) None ≡ Some body → ((q ≡ p) × (told ≡ body)) ⊎ (body_at q [] ≡ Some body)
    go true t e = inl (same_place q p t, cc e)
    go false t e = cc e
logged_or_old (x ∷ gots) p q told body e = go (place_cmp p x.0) refl (logged_or_old gots p q told body) e
  where
    first : (t : Bool) → is_at (place_cmp q) p ≡ t → cond t (Some told) (body_at q (x ∷ gots)) ≡ Some body → ((q ≡ p) × (told ≡ body)) ⊎ (body_at q (x ∷ gots) ≡ Some body)
    first true t e = inl (same_place q p t, cc e)
    first false t e = inr e

    here : p ≡ x.0 → (t : Bool) → is_at (place_cmp q) x.0 ≡ t → cond t (Some told) (body_at q gots) ≡ Some body → ((q ≡ p) × (told ≡ body)) ⊎ (cond t (Some x.1) (body_at q gots) ≡ Some body)
    here same true t e = inl (same_place q x.0 t ∙ sym same, cc e)
    here same false t e = inr e

    later : (body_at q (insert_entry place_cmp gots p told) ≡ Some body → ((q ≡ p) × (told ≡ body)) ⊎ (body_at q gots ≡ Some body)) → (t : Bool) → cond t (Some x.1) (body_at q (insert_entry place_cmp gots p told)) ≡ Some body → ((q ≡ p) × (told ≡ body)) ⊎ (cond t (Some x.1) (body_at q gots) ≡ Some body)
    later ih true e = inr e
    later ih false e = ih e

    go : (o : Ordering) → place_cmp p x.0 ≡ o → (body_at q (insert_entry place_cmp gots p told) ≡ Some body → ((q ≡ p) × (told ≡ body)) ⊎ (body_at q gots ≡ Some body))
        → body_at q (match_ordering o ((p, told) ∷ x ∷ gots) ((x.0, told) ∷ gots) (x ∷ insert_entry place_cmp gots p told)) ≡ Some body → ((q ≡ p) × (told ≡ body)) ⊎ (body_at q (x ∷ gots) ≡ Some body)
    go Less o ih e = first (is_at (place_cmp q) p) refl e
    go Equal o ih e = here (same_place p x.0 (ap is_eq o)) (is_at (place_cmp q) x.0) refl e
    go Greater o ih e = later ih (is_at (place_cmp q) x.0) e

-- what was logged stands at its place
pub logged_here : (gots : GotList) (p : Place) (told : RoundBody) → body_at p (insert_entry place_cmp gots p told) ≡ Some told
logged_here [] p told = rw (tied_place p) refl
logged_here (x ∷ gots) p told = go (place_cmp p x.0) refl (logged_here gots p told)
  where
    go : (o : Ordering) → place_cmp p x.0 ≡ o → body_at p (insert_entry place_cmp gots p told) ≡ Some told → body_at p (match_ordering o ((p, told) ∷ x ∷ gots) ((x.0, told) ∷ gots) (x ∷ insert_entry place_cmp gots p told)) ≡ Some told
    go Less o ih = rw (tied_place p) refl
    go Equal o ih = (let at : is_at (place_cmp p) x.0 ≡ true = ap is_eq o in rw at refl)
    go Greater o ih = (let off : is_at (place_cmp p) x.0 ≡ false = ap is_eq o in rw off ih)

-- what is not forgotten stood there before
pub kept_is_old : (epoch round : ℕ) (gots : GotList) (q : Place) (body : RoundBody) → body_at q (from_round epoch round gots) ≡ Some body → body_at q gots ≡ Some body
kept_is_old epoch round gots q body e = go (is_before epoch round q) refl
  where
    go : (t : Bool) → is_before epoch round q ≡ t → body_at q gots ≡ Some body
    go true t = let none = gone_before epoch round gots q t in cc (none, e)
    go false t = sym (found_from epoch round gots q t) ∙ e

-- ---- each of some senders

pub each_of_all : (n a : ℕ) (test : ℕ → Bool) → list_all test (range_with_len a n) ≡ true → (k : ℕ) → k < n → test (a + k) ≡ true
each_of_all zero a test e k l = absurd (omega (arith, l))
each_of_all (suc n) a test e zero l = ap test (zero_right a) ∙ (and_parts (test a) (list_all test (range_with_len (a + 1) n)) e).0
  where
    zero_right : (m : ℕ) → m + 0 ≡ m
    zero_right m = omega arith
each_of_all (suc n) a test e (suc k) l = ap test (shift a k) ∙ each_of_all n (a + 1) test (and_parts (test a) (list_all test (range_with_len (a + 1) n)) e).1 k (omega (arith, l))
  where
    shift : (m j : ℕ) → m + suc j ≡ m + 1 + j
    shift m j = omega arith

pub all_of_each : (n a : ℕ) (test : ℕ → Bool) → ((k : ℕ) → k < n → test (a + k) ≡ true) → list_all test (range_with_len a n) ≡ true
all_of_each zero a test h = refl
all_of_each (suc n) a test h =
    let first : test a ≡ true = ap test (zero_right a) ∙ h 0 (omega arith) in
    ap (λ b. b && list_all test (range_with_len (a + 1) n)) first ∙ all_of_each n (a + 1) test (λ k l. ap test (shift a k) ∙ h (suc k) (omega (arith, l)))
  where
    zero_right : (m : ℕ) → m ≡ m + 0
    zero_right m = omega arith

    shift : (m j : ℕ) → m + 1 + j ≡ m + suc j
    shift m j = omega arith
