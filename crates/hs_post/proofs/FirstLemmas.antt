-- The least number that passes a test.
use Rattle.std.proofs.Common.{◌≡◌, ℕ, ◌<◌, ◌≤◌, Bool, true, false, ◌||◌, Option, Some, None, min, ap, sym, ◌∙◌, arith, refl, ⊎_elim, ◌⊎◌, inl, inr}
use Rattle.std.proofs.lemmas.Bool.{cases_lt, or_cases}
use Rattle.hs_post.specs.First.{IsFirst, earlier}

-- of tests that answer alike
pub first_alike : (p q : ℕ → Bool) (first : Option ℕ) → ((n : ℕ) → q n ≡ p n) → IsFirst p first → IsFirst q first
first_alike p q None same h = λ n. same n ∙ h n
first_alike p q (Some k) same h = (same k ∙ h.0, λ n passes. h.1 n (sym (same n) ∙ passes))

-- there is only one
pub first_is_one : (p : ℕ → Bool) (a b : Option ℕ) → IsFirst p a → IsFirst p b → a ≡ b
first_is_one p None None h g = refl
first_is_one p None (Some b) h g = let wrong : true ≡ false = sym g.0 ∙ h b in cc
first_is_one p (Some a) None h g = let wrong : true ≡ false = sym h.0 ∙ g a in cc
first_is_one p (Some a) (Some b) h g =
    let below : a ≤ b = h.1 b g.0 in
    let above : b ≤ a = g.1 a h.0 in
    let same : a ≡ b = omega arith in ap (λ n. Some n) same

or_true : (x y : Bool) → y ≡ true → (x || y) ≡ true
or_true true y e = refl
or_true false y e = e

true_or : (x y : Bool) → x ≡ true → (x || y) ≡ true
true_or x y e = rw e

or_false : (x y : Bool) → x ≡ false → y ≡ false → (x || y) ≡ false
or_false x y e f = rw (e, f)

-- no number of the first test is below a, where none passes the second, and the other way round
only_first : (p q : ℕ → Bool) (n : ℕ) → q n ≡ false → (p n || q n) ≡ true → p n ≡ true
only_first p q n none passes = ⊎_elim (λ l. l) (λ r. let wrong : true ≡ false = sym r ∙ none in cc) (or_cases (p n) (q n) passes)

only_second : (p q : ℕ → Bool) (n : ℕ) → p n ≡ false → (p n || q n) ≡ true → q n ≡ true
only_second p q n none passes = ⊎_elim (λ l. let wrong : true ≡ false = sym l ∙ none in cc) (λ r. r) (or_cases (p n) (q n) passes)

-- of two tests the lesser
pub first_of_two : (p q : ℕ → Bool) (a b : Option ℕ) → IsFirst p a → IsFirst q b → IsFirst (λ n. p n || q n) (earlier a b)
first_of_two p q None None h g = λ n. or_false (p n) (q n) (h n) (g n)
first_of_two p q None (Some b) h g = (or_true (p b) (q b) g.0, λ n passes. g.1 n (only_second p q n (h n) passes))
first_of_two p q (Some a) None h g = (true_or (p a) (q a) h.0, λ n passes. h.1 n (only_first p q n (g n) passes))
first_of_two p q (Some a) (Some b) h g = (found (cases_lt b a), least)
  where
    found : (b < a) ⊎ (a ≤ b) → (p (min a b) || q (min a b)) ≡ true
    found (inl l) = let e : min a b ≡ b = omega arith in rw e (or_true (p b) (q b) g.0)
    found (inr l) = let e : min a b ≡ a = omega arith in rw e (true_or (p a) (q a) h.0)

    least : (n : ℕ) → (p n || q n) ≡ true → min a b ≤ n
    least n passes = ⊎_elim (λ l. let up : a ≤ n = h.1 n l in omega arith) (λ r. let up : b ≤ n = g.1 n r in omega arith) (or_cases (p n) (q n) passes)
