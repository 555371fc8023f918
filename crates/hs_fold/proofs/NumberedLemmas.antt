-- Where a numbered list parts, and how it goes on.
use Rattle.std.proofs.Common.{◌≡◌, ℕ, ◌+◌, ◌≤◌, List, [], ◌∷◌, ◌++◌, length, filter, true, false, refl, ap, nat_lt, arith}
use Rattle.std.proofs.lemmas.Bool.Decides.{nat_tests}
use Rattle.hs_entry.specs.declared.entry.Entry.{Entry}
use Rattle.hs_entry.specs.Entries.{is_of_base}
use Rattle.hs_fold.specs.Pending.{behind, up_to}
use Rattle.hs_fold.specs.Prefix.{GoOn, IsNumbered}
use Rattle.hs_fold.proofs.PrefixLemmas.{front-up_to}

-- ---- the entries behind a number

all-behind : (n k : ℕ) (es : List (ℕ × Entry)) → GoOn n es → k ≤ n → filter (λ e. nat_lt k e.0) es ≡ es
all-behind n k [] g h = refl
all-behind n k (e ∷ es) g h =
    let above : nat_lt k e.0 ≡ true = rw g.0 (grind (arith, nat_tests, h)) in
    rw above (ap (λ rest. e ∷ rest) (all-behind (n + 1) k es g.2 (omega (arith, h))))

back-behind : (n k : ℕ) (front back : List (ℕ × Entry)) → GoOn n (front ++ back) → k ≡ n + length front → filter (λ e. nat_lt k e.0) (front ++ back) ≡ back
back-behind n k [] back g h = all-behind n k back g (omega (arith, h))
back-behind n k (e ∷ front) back g h =
    let within : nat_lt k e.0 ≡ false = rw g.0 (grind (arith, nat_tests, h)) in
    rw within (back-behind (n + 1) k front back g.2 (omega (arith, h)))

pub numbered-behind : (front back : List (ℕ × Entry)) → IsNumbered (front ++ back) → behind (length front) (front ++ back) ≡ back
numbered-behind front back g = back-behind 0 (length front) front back g (omega arith)

pub numbered-up_to : (front back : List (ℕ × Entry)) → IsNumbered (front ++ back) → up_to (length front) (front ++ back) ≡ front
numbered-up_to front back g = front-up_to 0 (length front) front back g (omega arith)

-- ---- one entry more

goes-on : (n k : ℕ) (es : List (ℕ × Entry)) (entry : Entry) → GoOn n es → is_of_base entry ≡ false → k ≡ n + length es → GoOn n (es ++ (k + 1, entry) ∷ [])
goes-on n k [] entry g f h = (omega (arith, h), f, tt)
goes-on n k (e ∷ es) entry g f h = (g.0, g.1, goes-on (n + 1) k es entry g.2 f (omega (arith, h)))

pub numbered-more : (es : List (ℕ × Entry)) (entry : Entry) → IsNumbered es → is_of_base entry ≡ false → IsNumbered (es ++ (length es + 1, entry) ∷ [])
numbered-more es entry g f = goes-on 0 (length es) es entry g f (omega arith)
