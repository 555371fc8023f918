-- Places of lists, and lines that are found among some.
use Rattle.std.proofs.Common.{◌≡◌, ◌∙◌, sym, ap, ◌⊎◌, inl, inr, ℕ, zero, suc, ◌+◌, ◌<◌, Bool, true, false, cond, ◌||◌, filter, map, List, [], ◌∷◌, ◌++◌, length, count_by, Some, None, refl, arith, slice_get}
use Rattle.std.proofs.lemmas.List.Sums.{sum_by-cons}
use Rattle.std.specs.BTreeMap.{is_at}
use Rattle.std.specs.List.{list_any}
use Rattle.std.specs.Map.{lookup}
use Rattle.std.specs.Ordering.{nat_cmp}
use Rattle.hs_effects.proofs.LookLemmas.{number_exact}
use Rattle.hs_effects.proofs.OrderlyLemmas.{some_is}

module _ {X : Type 0} where
  pub at_last : (xs : List X) (x : X) → slice_get (xs ++ x ∷ []) (length xs) ≡ Some x
  at_last [] x = refl
  at_last (y ∷ xs) x = at_last xs x

  pub at_more : (xs ys : List X) (place : ℕ) (x : X) → slice_get xs place ≡ Some x → slice_get (xs ++ ys) place ≡ Some x
  at_more [] ys zero x e = absurd (cc e)
  at_more [] ys (suc place) x e = absurd (cc e)
  at_more (y ∷ xs) ys zero x e = e
  at_more (y ∷ xs) ys (suc place) x e = at_more xs ys place x e

  -- behind some there is what stands behind them
  pub at_behind : (xs ys : List X) (place : ℕ) (x : X) → slice_get ys place ≡ Some x → slice_get (xs ++ ys) (length xs + place) ≡ Some x
  at_behind [] ys place x e = ap (λ k. slice_get ys k) (none_more place) ∙ e
    where
      none_more : (n : ℕ) → 0 + n ≡ n
      none_more n = omega arith
  at_behind (y ∷ xs) ys place x e = ap (λ k. slice_get (y ∷ (xs ++ ys)) k) (one_more (length xs) place) ∙ at_behind xs ys place x e
    where
      one_more : (m n : ℕ) → suc m + n ≡ suc (m + n)
      one_more m n = omega arith

  -- nothing stands in an empty list
  pub at_none : (xs : List X) (place : ℕ) (x : X) → xs ≡ [] → slice_get xs place ≡ Some x → ⊥
  at_none xs place x none e = nothing place (sym (ap (λ ys. slice_get ys place) none) ∙ e)
    where
      nothing : (k : ℕ) → slice_get [] k ≡ Some x → ⊥
      nothing zero f = cc f
      nothing (suc k) f = cc f

  -- where nothing stands at the first place there is nothing
  pub first_none : (xs : List X) → slice_get xs 0 ≡ None → xs ≡ []
  first_none [] e = refl
  first_none (x ∷ xs) e = absurd (cc e)

  -- an element at some place, of which this is so
  pub record IsAt (xs : List X) (P : X → Type 0) : Type 0 where
    pub place : ℕ
    pub element : X
    pub at : slice_get xs place ≡ Some element
    pub is : P element

  later : (x : X) (xs : List X) (P : X → Type 0) → IsAt xs P → IsAt (x ∷ xs) P
  later x xs P h = record { place = suc h.place; element = h.element; at = h.at; is = h.is }

  pub any_at : (test : X → Bool) (xs : List X) → list_any test xs ≡ true → IsAt xs (λ x. test x ≡ true)
  any_at test [] e = absurd (cc e)
  any_at test (x ∷ xs) e = go (test x) refl e (any_at test xs)
    where
      go : (b : Bool) → test x ≡ b → (b || list_any test xs) ≡ true → (list_any test xs ≡ true → IsAt xs (λ y. test y ≡ true)) → IsAt (x ∷ xs) (λ y. test y ≡ true)
      go true t f ih = record { place = 0; element = x; at = refl; is = t }
      go false t f ih = later x xs (λ y. test y ≡ true) (ih f)

  pub count_at : (test : X → Bool) (xs : List X) → 0 < count_by test xs → IsAt xs (λ x. test x ≡ true)
  count_at test [] low = let none : count_by test [] ≡ 0 = refl in absurd (omega (arith, none, low))
  count_at test (x ∷ xs) low = go (test x) refl (count_at test xs)
    where
      more : count_by test (x ∷ xs) ≡ cond (test x) 1 0 + count_by test xs
      more = sum_by-cons (λ y. cond (test y) 1 0) x xs

      go : (b : Bool) → test x ≡ b → (0 < count_by test xs → IsAt xs (λ y. test y ≡ true)) → IsAt (x ∷ xs) (λ y. test y ≡ true)
      go true t ih = record { place = 0; element = x; at = refl; is = t }
      go false t ih =
          let same : count_by test (x ∷ xs) ≡ 0 + count_by test xs = more ∙ ap (λ b. cond b 1 0 + count_by test xs) t in
          later x xs (λ y. test y ≡ true) (ih (omega (arith, same, low)))

  -- tests that agree at each place
  pub any_agree : (p q : X → Bool) (xs : List X) → ((place : ℕ) (x : X) → slice_get xs place ≡ Some x → p x ≡ q x) → list_any p xs ≡ list_any q xs
  any_agree p q [] same = refl
  any_agree p q (x ∷ xs) same = ap (λ b. b || list_any p xs) (same 0 x refl) ∙ ap (λ b. q x || b) (any_agree p q xs (λ place y at. same (suc place) y at))

-- ---- lines

-- a line is one of these
abbrev pub IsAmong : ℕ → List ℕ → Type 0
IsAmong m [] = ⊥
IsAmong m (l ∷ ls) = (m ≡ l) ⊎ IsAmong m ls

-- what is found, and passes, is among those that pass
module _ {X : Type 0} (test : X → Bool) where
  pub found_among : (m : ℕ) (w : X) (es : List (ℕ × X)) → lookup (is_at (nat_cmp m)) es ≡ Some w → test w ≡ true
      → IsAmong m (map (λ (e : ℕ × X). e.0) (filter (λ (e : ℕ × X). test e.1) es))
  found_among m w [] at t = absurd (cc at)
  found_among m w (e ∷ es) at t = go (is_at (nat_cmp m) e.0) refl at (test e.1) refl (λ f. found_among m w es f t)
    where
      rest : List (ℕ × X)
      rest = filter (λ (x : ℕ × X). test x.1) es

      go : (b : Bool) → is_at (nat_cmp m) e.0 ≡ b → cond b (Some e.1) (lookup (is_at (nat_cmp m)) es) ≡ Some w → (passes : Bool) → test e.1 ≡ passes
          → (lookup (is_at (nat_cmp m)) es ≡ Some w → IsAmong m (map (λ (x : ℕ × X). x.0) rest)) → IsAmong m (map (λ (x : ℕ × X). x.0) (cond passes (e ∷ rest) rest))
      go true i f true u ih = inl (number_exact m e.0 i)
      go true i f false u ih = absurd (cc (sym u ∙ ap test (some_is e.1 w f) ∙ t))
      go false i f true u ih = inr (ih f)
      go false i f false u ih = ih f
