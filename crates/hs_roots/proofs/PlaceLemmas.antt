-- The first place at which a test passes, and how often it passes, as a list changes.
use Rattle.std.proofs.Common.{◌≡◌, ℕ, zero, suc, ◌+◌, ◌<◌, ◌≤◌, Bool, true, false, cond, List, [], ◌∷◌, Some, None, length, map, get_or, set, find, filter, refl, ap, sym, subst, ◌∙◌, arith, zero-add}
use Rattle.std.specs.List.{count_by, position_from}
use Rattle.hs_roots.proofs.InsertLemmas.{count_cons}

-- a place at which a test passes first: where the list begins at n, the item there is what `find` gives
pub record IsFirst {X : Type 0} (p : X → Bool) (xs : List X) (n i : ℕ) : Type 0 where
  pub place : ℕ
  pub is : i ≡ n + place
  pub below : place < length xs
  pub item : (d : X) → find p xs ≡ Some (get_or xs place d)

module _ {X : Type 0} where
  pub first_at : (p : X → Bool) (xs : List X) (n i : ℕ) → position_from p n xs ≡ Some i → IsFirst p xs n i
  first_at p [] n i e = cc
  first_at p (x ∷ xs) n i e = go (λ f. first_at p xs (n + 1) i f) (p x) refl e
    where
      go : (position_from p (n + 1) xs ≡ Some i → IsFirst p xs (n + 1) i) → (b : Bool) → p x ≡ b → cond b (Some n) (position_from p (n + 1) xs) ≡ Some i → IsFirst p (x ∷ xs) n i
      go ih true h f = record { place = 0; is = grind arith; below = omega arith; item = λ d. rw h refl }
      go ih false h f =
          let later = ih f in
          record { place = suc later.place; is = omega (arith, later.is); below = omega (arith, later.below); item = λ d. rw h (later.item d) }

  pub found : (p : X → Bool) (xs : List X) (i : ℕ) → position_from p 0 xs ≡ Some i → (i < length xs) × ((d : X) → find p xs ≡ Some (get_or xs i d))
  found p xs i e =
      let at = first_at p xs 0 i e in
      let same : i ≡ at.place = at.is ∙ zero-add at.place in
      (omega (arith, same, at.below), λ d. at.item d ∙ ap (λ k. Some (get_or xs k d)) (sym same))

  pub nowhere : (p : X → Bool) (xs : List X) (n : ℕ) → position_from p n xs ≡ None → find p xs ≡ None
  nowhere p [] n e = refl
  nowhere p (x ∷ xs) n e = go (nowhere p xs (n + 1)) (p x) e
    where
      go : (position_from p (n + 1) xs ≡ None → find p xs ≡ None) → (b : Bool) → cond b (Some n) (position_from p (n + 1) xs) ≡ None → cond b (Some x) (find p xs) ≡ None
      go ih true f = cc
      go ih false f = ih f

  pub somewhere : (p : X → Bool) (xs : List X) (n : ℕ) → find p xs ≡ None → position_from p n xs ≡ None
  somewhere p [] n e = refl
  somewhere p (x ∷ xs) n e = go (somewhere p xs (n + 1)) (p x) e
    where
      go : (find p xs ≡ None → position_from p (n + 1) xs ≡ None) → (b : Bool) → cond b (Some x) (find p xs) ≡ None → cond b (Some n) (position_from p (n + 1) xs) ≡ None
      go ih true f = cc
      go ih false f = ih f

  -- ---- how often it passes

  pub count_somewhere : (p : X → Bool) (xs : List X) (n i : ℕ) → position_from p n xs ≡ Some i → 1 ≤ count_by p xs
  count_somewhere p [] n i e = cc
  count_somewhere p (x ∷ xs) n i e = rw (count_cons p x xs) (go (count_somewhere p xs (n + 1) i) (p x) e)
    where
      go : (position_from p (n + 1) xs ≡ Some i → 1 ≤ count_by p xs) → (b : Bool) → cond b (Some n) (position_from p (n + 1) xs) ≡ Some i → 1 ≤ cond b 1 0 + count_by p xs
      go ih true f = omega arith
      go ih false f = omega (arith, ih f)

  -- ---- each item changed

  pub count_same : (p q : X → Bool) (f : X → X) → ((x : X) → p (f x) ≡ q x) → (xs : List X) → count_by p (map f xs) ≡ count_by q xs
  count_same p q f same [] = refl
  count_same p q f same (x ∷ xs) =
      count_cons p (f x) (map f xs) ∙ rw (same x) (ap (λ n. cond (q x) 1 0 + n) (count_same p q f same xs)) ∙ sym (count_cons q x xs)

  -- ---- some items gone

  pub count_kept : (p k : X → Bool) → ((x : X) → p x ≡ true → k x ≡ true) → (xs : List X) → count_by p (filter k xs) ≡ count_by p xs
  count_kept p k kept [] = refl
  count_kept p k kept (x ∷ xs) = go (count_kept p k kept xs) (k x) refl (p x) refl ∙ sym (count_cons p x xs)
    where
      go : count_by p (filter k xs) ≡ count_by p xs → (b : Bool) → k x ≡ b → (a : Bool) → p x ≡ a → count_by p (cond b (x ∷ filter k xs) (filter k xs)) ≡ cond (p x) 1 0 + count_by p xs
      go ih true e a f = count_cons p x (filter k xs) ∙ ap (λ n. cond (p x) 1 0 + n) ih
      go ih false e true f = let h = kept x f in cc (e, h)
      go ih false e false f = rw f (ih ∙ sym (zero-add (count_by p xs)))

  -- ---- the one item at which it passes changed

  pub map_nowhere : (p : X → Bool) (f : X → X) (xs : List X) → count_by p xs ≡ 0 → map (λ x. cond (p x) (f x) x) xs ≡ xs
  map_nowhere p f [] e = refl
  map_nowhere p f (x ∷ xs) e = go (map_nowhere p f xs) (p x) (sym (count_cons p x xs) ∙ e)
    where
      go : (count_by p xs ≡ 0 → map (λ x. cond (p x) (f x) x) xs ≡ xs) → (b : Bool) → cond b 1 0 + count_by p xs ≡ 0 → cond b (f x) x ∷ map (λ x. cond (p x) (f x) x) xs ≡ x ∷ xs
      go ih true h = absurd (omega (arith, h))
      go ih false h = ap (λ rest. x ∷ rest) (ih (omega (arith, h)))

  pub map_once : (p : X → Bool) (f : X → X) (xs : List X) (n k : ℕ) (d : X) → position_from p n xs ≡ Some (n + k) → count_by p xs ≤ 1 → set xs k (f (get_or xs k d)) ≡ map (λ x. cond (p x) (f x) x) xs
  map_once p f [] n k d e once = cc
  map_once p f (x ∷ xs) n k d e once = go (map_once p f xs (n + 1)) (p x) k e (subst (λ m. m ≤ 1) (count_cons p x xs) once)
    where
      go : ((k : ℕ) (d : X) → position_from p (n + 1) xs ≡ Some (n + 1 + k) → count_by p xs ≤ 1 → set xs k (f (get_or xs k d)) ≡ map (λ x. cond (p x) (f x) x) xs)
          → (b : Bool) (k : ℕ) → cond b (Some n) (position_from p (n + 1) xs) ≡ Some (n + k) → cond b 1 0 + count_by p xs ≤ 1
          → set (x ∷ xs) k (f (get_or (x ∷ xs) k d)) ≡ cond b (f x) x ∷ map (λ x. cond (p x) (f x) x) xs
      go ih true zero g l = ap (λ rest. f x ∷ rest) (sym (map_nowhere p f xs (omega (arith, l))))
      go ih true (suc k) g l = absurd (grind (arith, g))
      go ih false zero g l = let h = first_at p xs (n + 1) (n + 0) g in absurd (omega (arith, h.is))
      go ih false (suc k) g l = ap (λ rest. x ∷ rest) (ih k d (g ∙ ap (λ m. Some m) (omega arith)) (omega (arith, l)))
