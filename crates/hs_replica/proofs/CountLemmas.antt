-- Counts of entries of a kind.
use Rattle.std.proofs.Common.{◌≡◌, ◌∙◌, sym, ap, ℕ, ◌+◌, ◌<◌, Bool, true, false, cond, List, [], ◌∷◌, ◌++◌, ltb, refl, arith}
use Rattle.std.proofs.Math.Nat.{add_comm}
use Rattle.std.proofs.lemmas.Bool.{lt-ltb}
use Rattle.std.proofs.lemmas.List.Sums.{sum_by-cons, sum_by_push}
use Rattle.std.specs.List.{list_any}
use Rattle.std.specs.Prelude.{count_by, nat_lt}
use Rattle.hs_entry.specs.declared.entry.Entry.{Entry}

abbrev weight : Bool → ℕ
weight b = cond b 1 0

counted_first : (p : Entry → Bool) (n : ℕ) (x : Entry) (xs : List Entry) (b : Bool) → p x ≡ b → nat_lt 0 (count_by p xs) ≡ list_any p xs
    → n ≡ count_by p (x ∷ xs) → nat_lt 0 n ≡ list_any p (x ∷ xs)
counted_first p n x xs true h rest e =
    let one : weight (p x) ≡ 1 = ap weight h in
    let more : 0 < n = omega (arith, e, one, sum_by-cons (λ (y : Entry). weight (p y)) x xs) in
    lt-ltb 0 n more ∙ rw h refl
counted_first p n x xs false h rest e =
    let one : weight (p x) ≡ 0 = ap weight h in
    let same : n ≡ count_by p xs = omega (arith, e, one, sum_by-cons (λ (y : Entry). weight (p y)) x xs) in
    ap (nat_lt 0) same ∙ rest ∙ rw h refl

-- some pass where the count is not 0
pub any_counted : (p : Entry → Bool) (n : ℕ) (xs : List Entry) → n ≡ count_by p xs → nat_lt 0 n ≡ list_any p xs
any_counted p n [] e = rw e refl
any_counted p n (x ∷ xs) e = counted_first p n x xs (p x) refl (any_counted p (count_by p xs) xs refl) e

-- ---- one entry more, or one less

-- the count with one more at the front, or at the end
pub count_front : (p : Entry → Bool) (x : Entry) (xs : List Entry) → count_by p (x ∷ xs) ≡ cond (p x) 1 0 + count_by p xs
count_front p x xs = sum_by-cons (λ (y : Entry). weight (p y)) x xs

pub count_back : (p : Entry → Bool) (x : Entry) (xs : List Entry) → count_by p (xs ++ x ∷ []) ≡ cond (p x) 1 0 + count_by p xs
count_back p x xs = sum_by_push (λ (y : Entry). weight (p y)) xs x ∙ add_comm (count_by p xs) (weight (p x))
