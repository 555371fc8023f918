-- Fronts of lists, and the lines of a run up to one.
use Rattle.std.proofs.Common.{◌≡◌, ap, subst, ℕ, zero, suc, ◌+◌, ◌<◌, ◌++◌, List, [], ◌∷◌, Some, refl, arith, length, take, slice_get}
use Rattle.std.specs.List.{AllByRecursion}

module _ {X : Type 0} where
  -- a front has what each of its places has
  pub all_take : (P : X → Type 0) (k : ℕ) (xs : List X) → ((i : ℕ) (x : X) → i < k → slice_get xs i ≡ Some x → P x) → AllByRecursion P (take k xs)
  all_take P zero xs h = tt
  all_take P (suc k) [] h = tt
  all_take P (suc k) (x ∷ xs) h = (h 0 x (omega arith) refl, all_take P k xs (λ i y low at. h (suc i) y (omega (arith, low)) at))

  pub take_all : (xs : List X) → take (length xs) xs ≡ xs
  take_all [] = refl
  take_all (x ∷ xs) = ap (λ t. x ∷ t) (take_all xs)

  pub take_back : (front back : List X) (n k : ℕ) → n ≡ length front + k → take n (front ++ back) ≡ front ++ take k back
  take_back [] back n k e = ap (λ m. take m back) (omega (arith, e))
  take_back (x ∷ front) back zero k e = absurd (omega (arith, e))
  take_back (x ∷ front) back (suc n) k e = ap (λ t. x ∷ t) (take_back front back n k (omega (arith, e)))

  pub get_front : (front back : List X) (n : ℕ) → n < length front → slice_get (front ++ back) n ≡ slice_get front n
  get_front [] back n h = absurd (omega (arith, h))
  get_front (x ∷ front) back zero h = refl
  get_front (x ∷ front) back (suc n) h = get_front front back n (omega (arith, h))

  pub get_back : (front back : List X) (n k : ℕ) → n ≡ length front + k → slice_get (front ++ back) n ≡ slice_get back k
  get_back [] back n k e = ap (λ m. slice_get back m) (omega (arith, e))
  get_back (x ∷ front) back zero k e = absurd (omega (arith, e))
  get_back (x ∷ front) back (suc n) k e = get_back front back n k (omega (arith, e))

  -- a place where something stands is within the list
  pub at_within : (xs : List X) (i : ℕ) (x : X) → slice_get xs i ≡ Some x → i < length xs
  at_within [] zero x e = absurd (cc e)
  at_within [] (suc i) x e = absurd (cc e)
  at_within (y ∷ xs) zero x e = omega arith
  at_within (y ∷ xs) (suc i) x e = let low : i < length xs = at_within xs i x e in omega (arith, low)

  pub all_at : (P : X → Type 0) (xs : List X) (i : ℕ) (x : X) → slice_get xs i ≡ Some x → AllByRecursion P xs → P x
  all_at P [] zero x e h = absurd (cc e)
  all_at P [] (suc i) x e h = absurd (cc e)
  all_at P (y ∷ xs) zero x e h = subst P (same e) h.0
    where
      same : Some y ≡ Some x → y ≡ x
      same f = cc f
  all_at P (y ∷ xs) (suc i) x e h = all_at P xs i x e h.1
