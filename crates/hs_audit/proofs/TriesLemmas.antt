-- A shard's views are given up one after another, and no more often than it has copies.
use Rattle.std.proofs.Common.{◌≡◌, ◌≢◌, ◌∙◌, ◌+◌, ◌<◌, ◌≤◌, ℕ, zero, suc, Bool, true, false, refl, sym, ap, subst, arith, inl, inr}
use Rattle.std.proofs.lemmas.Bool.{cases_eq}

abbrev one : Bool → ℕ
one true = 1
one false = 0

-- how many of some places from one on pass
abbrev pub count_from : (ℕ → Bool) → ℕ → ℕ → ℕ
count_from p from zero = 0
count_from p from (suc n) = one (p from) + count_from p (from + 1) n

one_or_none : (b : Bool) → one b ≤ 1
one_or_none true = omega arith
one_or_none false = omega arith

pub count_most : (p : ℕ → Bool) (from n : ℕ) → count_from p from n ≤ n
count_most p from zero = omega arith
count_most p from (suc n) = let a = one_or_none (p from) in let b = count_most p (from + 1) n in omega (arith, a, b)

count_same : (p q : ℕ → Bool) (from n : ℕ) → ((k : ℕ) → from ≤ k → k < from + n → q k ≡ p k) → count_from q from n ≡ count_from p from n
count_same p q from zero h = refl
count_same p q from (suc n) h =
    let a : one (q from) ≡ one (p from) = ap (λ b. one b) (h from (omega arith) (omega arith)) in
    let b = count_same p q (from + 1) n (λ k low high. h k (omega (arith, low)) (omega (arith, high))) in
    ap (λ m. m + count_from q (from + 1) n) a ∙ ap (λ m. one (p from) + m) b

-- one place passes no longer
pub count_less : (p q : ℕ → Bool) (from n at : ℕ) → from ≤ at → at < from + n → p at ≡ true → q at ≡ false → ((k : ℕ) → k ≢ at → q k ≡ p k) → count_from q from n + 1 ≡ count_from p from n
count_less p q from zero at low high was is others = absurd (omega (arith, low, high))
count_less p q from (suc n) at low high was is others = elim (cases_eq at from) [
  | inl same ↦
      let a : one (q from) ≡ 0 = ap (λ b. one b) (subst (λ k. q k ≡ false) same is) in
      let b : one (p from) ≡ 1 = ap (λ b. one b) (subst (λ k. p k ≡ true) same was) in
      let rest = count_same p q (from + 1) n (λ k less more. others k (λ e. omega (arith, less, e, same))) in
      omega (arith, a, b, rest)
  | inr differs ↦
      let a : one (q from) ≡ one (p from) = ap (λ b. one b) (others from (λ e. differs (sym e))) in
      let rest = count_less p q (from + 1) n at (omega (arith, low, differs)) (omega (arith, high)) was is others in
      omega (arith, a, rest)
]

-- none passes
pub count_none : (p : ℕ → Bool) (from n : ℕ) → count_from p from n ≡ 0 → (k : ℕ) → from ≤ k → k < from + n → p k ≡ false
count_none p from zero h k low high = absurd (omega (arith, low, high))
count_none p from (suc n) h k low high = elim (cases_eq k from) [
  | inl same ↦ subst (λ j. p j ≡ false) (sym same) (first (p from) (omega (arith, h)))
  | inr differs ↦ count_none p (from + 1) n (omega (arith, h)) k (omega (arith, low, differs)) (omega (arith, high))
]
  where
    first : (b : Bool) → one b ≡ 0 → b ≡ false
    first true e = absurd (omega (arith, e))
    first false e = refl
