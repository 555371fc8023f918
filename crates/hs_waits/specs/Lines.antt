-- Lines by what they wait for.
use Rattle.std.specs.BTreeMap.{is_at}
use Rattle.std.specs.List.{list_any}
use Rattle.std.specs.declared.cmp.Ordering.{Ordering}
use Rattle.std.specs.Ordering.{is_eq, nat_cmp, ordering_then}
use Rattle.std.specs.Prelude.{◌≡◌, ℕ, ◌≤◌, ◌==◌, Bool, true, false, List, Option, Some, None, MatchOption, if◌then◌else◌}

-- by what they wait for, then by their numbers
abbrev pub pair_cmp : {K : Type 0} → (K → K → Ordering) → K × ℕ → K × ℕ → Ordering
pair_cmp cmp x y = ordering_then (cmp x.0 y.0) (nat_cmp x.1 y.1)

-- whether this line waits for it
abbrev pub has : {K : Type 0} → (K → K → Ordering) → List (K × ℕ) → K → ℕ → Bool
has cmp lines key line = list_any (is_at (pair_cmp cmp (key, line))) lines

-- whether some key, if there is one, is this
abbrev pub tied : {K : Type 0} → (K → K → Ordering) → Option K → K → Bool
tied cmp (Some other) key = is_eq (cmp other key)
tied cmp None key = false

-- each line waits for its key, where it has one, and for nothing else
abbrev pub AreKept : {K : Type 0} → (K → K → Ordering) → (ℕ → Option K) → List (K × ℕ) → Type 0
AreKept {K} cmp keys lines = (key : K) (n : ℕ) → has cmp lines key n ≡ tied cmp (keys n) key

-- the keys, but that of this line is another
abbrev pub changed : {K : Type 0} → ℕ → Option K → (ℕ → Option K) → ℕ → Option K
changed line new keys n = if line == n then new else keys n

-- the least line from this one on that passes the test, or that none does
abbrev pub IsFirstFrom : ℕ → (ℕ → Bool) → Option ℕ → Type 0
IsFirstFrom from passes first = MatchOption first
    ((n : ℕ) → from ≤ n → passes n ≡ false)
    (λ k. (from ≤ k) × (passes k ≡ true) × ((n : ℕ) → from ≤ n → passes n ≡ true → k ≤ n))
