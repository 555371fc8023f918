-- A list with one item more, at any place.
use Rattle.std.proofs.Common.{◌≡◌, ℕ, zero, suc, ◌+◌, Bool, true, false, cond, List, [], ◌∷◌, Some, None, length, map, find, refl, ap, sym, ◌∙◌, arith}
use Rattle.std.proofs.lemmas.List.Edits.{length-insert}
use Rattle.std.proofs.lemmas.List.Sums.{count_by-le-length, sum_by-cons}
use Rattle.std.specs.List.{AllByRecursion, count_by, insert}

module _ {X : Type 0} where
  pub all_insert : (P : X → Type 0) (xs : List X) (i : ℕ) (y : X) → P y → AllByRecursion P xs → AllByRecursion P (insert xs i y)
  all_insert P [] zero y p h = (p, tt)
  all_insert P [] (suc i) y p h = (p, tt)
  all_insert P (x ∷ xs) zero y p h = (p, h)
  all_insert P (x ∷ xs) (suc i) y p h = (h.0, all_insert P xs i y p h.1)

  -- where the new item fails the test, the same is found
  pub find_insert : (p : X → Bool) (xs : List X) (i : ℕ) (y : X) → p y ≡ false → find p (insert xs i y) ≡ find p xs
  find_insert p [] zero y e = rw e refl
  find_insert p [] (suc i) y e = rw e refl
  find_insert p (x ∷ xs) zero y e = rw e refl
  find_insert p (x ∷ xs) (suc i) y e = ap (λ found. cond (p x) (Some x) found) (find_insert p xs i y e)

  -- where it alone passes, it is found
  pub find_inserted : (p : X → Bool) (xs : List X) (i : ℕ) (y : X) → find p xs ≡ None → p y ≡ true → find p (insert xs i y) ≡ Some y
  find_inserted p [] zero y none e = rw e refl
  find_inserted p [] (suc i) y none e = rw e refl
  find_inserted p (x ∷ xs) zero y none e = rw e refl
  find_inserted p (x ∷ xs) (suc i) y none e = go (p x) none (λ none. find_inserted p xs i y none e)
    where
      go : (b : Bool) → cond b (Some x) (find p xs) ≡ None → (find p xs ≡ None → find p (insert xs i y) ≡ Some y) → cond b (Some x) (find p (insert xs i y)) ≡ Some y
      go true h ih = cc h
      go false h ih = ih h

  pub map_insert : {Y : Type 0} (f : X → Y) (xs : List X) (i : ℕ) (y : X) → map f (insert xs i y) ≡ insert (map f xs) i (f y)
  map_insert f [] zero y = refl
  map_insert f [] (suc i) y = refl
  map_insert f (x ∷ xs) zero y = refl
  map_insert f (x ∷ xs) (suc i) y = ap (λ rest. f x ∷ rest) (map_insert f xs i y)

  pub count_cons : (p : X → Bool) (x : X) (xs : List X) → count_by p (x ∷ xs) ≡ cond (p x) 1 0 + count_by p xs
  count_cons p x xs = sum_by-cons (λ x. cond (p x) 1 0) x xs

  pub count_insert : (p : X → Bool) (xs : List X) (i : ℕ) (y : X) → count_by p (insert xs i y) ≡ cond (p y) 1 0 + count_by p xs
  count_insert p [] zero y = count_cons p y []
  count_insert p [] (suc i) y = count_cons p y []
  count_insert p (x ∷ xs) zero y = count_cons p y (x ∷ xs)
  count_insert p (x ∷ xs) (suc i) y =
      let more = count_cons p x (insert xs i y) in
      let rest = count_insert p xs i y in
      let was = count_cons p x xs in
      omega (arith, more, rest, was)

  pub count_of_map : {Y : Type 0} (p : Y → Bool) (f : X → Y) (xs : List X) → count_by p (map f xs) ≡ count_by (λ x. p (f x)) xs
  count_of_map p f [] = refl
  count_of_map p f (x ∷ xs) = sum_by-cons (λ y. cond (p y) 1 0) (f x) (map f xs) ∙ ap (λ n. cond (p (f x)) 1 0 + n) (count_of_map p f xs) ∙ sym (count_cons (λ x. p (f x)) x xs)

  -- so many come before the new item at most
  pub longer : (p : X → Bool) (xs : List X) (y : X) → length (insert xs (count_by p xs) y) ≡ length xs + 1
  longer p xs y = length-insert xs (count_by p xs) y (count_by-le-length p xs)
