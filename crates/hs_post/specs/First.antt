-- The least number of which something holds.
use Rattle.std.specs.Prelude.{◌≡◌, ℕ, ◌≤◌, Bool, true, false, Option, Some, None, MatchOption, min}

-- the least number that passes the test, or that none does
abbrev pub IsFirst : (ℕ → Bool) → Option ℕ → Type 0
IsFirst passes first = MatchOption first
    ((number : ℕ) → passes number ≡ false)
    (λ k. (passes k ≡ true) × ((number : ℕ) → passes number ≡ true → k ≤ number))

-- the lesser of two numbers, where there are any
abbrev pub earlier : Option ℕ → Option ℕ → Option ℕ
earlier (Some a) (Some b) = Some (min a b)
earlier (Some a) None = Some a
earlier None b = b
