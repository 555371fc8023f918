-- How much changes tell for an address, and how a count moves by them.
use Rattle.std.proofs.Common.{◌≡◌, ℕ, zero, suc, ◌+◌, ◌-◌, ◌<◌, ◌≤◌, ◌^◌, ◌==◌, Bool, true, false, cond, if◌then◌else◌, List, [], ◌∷◌, ◌++◌, refl, ap, ◌∙◌, arith, nat_lt, nat_le, replicate, flat_map}
use Rattle.std.proofs.lemmas.Bool.Decides.{nat_tests}
use Rattle.std.specs.List.{range_with_len}
use Rattle.hs_limits.specs.declared.address.Address.{Address}
use Rattle.hs_limits.specs.declared.delta.Delta.{Delta}
use Rattle.hs_model.specs.Reach.{is_same}
use Rattle.hs_model.proofs.CountLemmas.{count-cons}
use Rattle.hs_model.proofs.SetLemmas.{same-sym}
use Rattle.hs_rounds.proofs.EachLemmas.{each_more}
use Rattle.hs_deletion.specs.Machine.{sum_below}
use Rattle.hs_deletion.specs.Rounds.{times}
use Rattle.hs_deletion.proofs.RoundLemmas.{times_none, times_append}
use Rattle.hs_fold.specs.Runs.Counts.{amount_at}
use Rattle.hs_fold.specs.Runs.Rounds.{moved, moved_by}
use Rattle.hs_joint.specs.Seen.{repeated}

-- ---- each address as often as it is told

times_repeated_one : (a b : Address) (k : ℕ) → times a (replicate k b) ≡ cond (is_same a b) k 0
unfolding times
times_repeated_one a b zero = go (is_same a b)
  where
    go : (t : Bool) → ◌≡◌ {A = ℕ} 0 (cond t 0 0)
    go true = refl
    go false = refl
times_repeated_one a b (suc k) = count-cons (is_same a) b (replicate k b) ∙ go (is_same a b) (times_repeated_one a b k)
  where
    go : (t : Bool) → times a (replicate k b) ≡ cond t k 0 → cond t 1 0 + times a (replicate k b) ≡ cond t (suc k) 0
    go true ih = omega (arith, ih)
    go false ih = omega (arith, ih)

pub times_repeated : (a : Address) (ds : List Delta) → times a (repeated ds) ≡ amount_at a ds
times_repeated a [] = times_none a
times_repeated a (d ∷ ds) =
    times_append a (replicate d.amount d.address) (repeated ds)
    ∙ (let one = times_repeated_one a d.address d.amount in let rest = times_repeated a ds in go (is_same a d.address) (is_same d.address a) (same-sym a d.address) one rest)
  where
    go : (t u : Bool) → t ≡ u → times a (replicate d.amount d.address) ≡ cond t d.amount 0 → times a (repeated ds) ≡ amount_at a ds
        → times a (replicate d.amount d.address) + times a (repeated ds) ≡ (if u then d.amount else 0) + amount_at a ds
    go true true e one rest = omega (arith, one, rest)
    go true false e one rest = cc e
    go false true e one rest = cc e
    go false false e one rest = omega (arith, one, rest)

pub amount_append : (a : Address) (xs ys : List Delta) → amount_at a (xs ++ ys) ≡ amount_at a xs + amount_at a ys
amount_append a [] ys = omega arith
amount_append a (x ∷ xs) ys = let rest = amount_append a xs ys in omega (arith, rest)

-- sender by sender
pub amount_each : (a : Address) (f : ℕ → List Delta) (n : ℕ) → amount_at a (flat_map f (range_with_len 0 n)) ≡ sum_below n (λ h. amount_at a (f h))
unfolding sum_below
amount_each a f zero = refl
amount_each a f (suc n) =
    ap (λ k. amount_at a (flat_map f (range_with_len 0 k))) (plus n)
    ∙ ap (amount_at a) (each_more f n)
    ∙ amount_append a (flat_map f (range_with_len 0 n)) (f n)
    ∙ (let rest = amount_each a f n in omega (arith, rest))
  where
    plus : (k : ℕ) → suc k ≡ k + 1
    plus k = omega arith

-- ---- how a count moves

pub moved_first : (round : ℕ) (a : Address) (ds : List Delta) (count : ℕ) → (round == 0) ≡ true → count + amount_at a ds < 2 ^ 32 → moved_by round a ds count ≡ count + amount_at a ds
moved_first round a [] count first small = omega arith
moved_first round a (d ∷ ds) count first small = go (λ next l. moved_first round a ds next first l) (is_same d.address a) refl
  where
    one : count + d.amount < 2 ^ 32 → moved round count d.amount ≡ count + d.amount
    one l = rw first (let low : nat_lt (count + d.amount) (2 ^ 32) ≡ true = grind (arith, nat_tests, l) in rw low refl)

    go : ((next : ℕ) → next + amount_at a ds < 2 ^ 32 → moved_by round a ds next ≡ next + amount_at a ds) → (t : Bool) → is_same d.address a ≡ t → moved_by round a ds (cond t (moved round count d.amount) count) ≡ count + (cond (is_same d.address a) d.amount 0 + amount_at a ds)
    go ih true e =
        let whole : count + (d.amount + amount_at a ds) < 2 ^ 32 = rw e at small in
        let here = one (omega (arith, whole)) in
        let rest = ih (count + d.amount) (omega (arith, whole)) in
        ap (moved_by round a ds) here ∙ rest ∙ rw e (omega arith)
    go ih false e =
        let whole : count + (0 + amount_at a ds) < 2 ^ 32 = rw e at small in
        let rest = ih count (omega (arith, whole)) in
        rest ∙ rw e (omega arith)

pub moved_later : (round : ℕ) (a : Address) (ds : List Delta) (count : ℕ) → (round == 0) ≡ false → amount_at a ds ≤ count → moved_by round a ds count ≡ count - amount_at a ds
moved_later round a [] count later small = omega arith
moved_later round a (d ∷ ds) count later small = go (λ next l. moved_later round a ds next later l) (is_same d.address a) refl
  where
    one : d.amount ≤ count → moved round count d.amount ≡ count - d.amount
    one l = rw later (let low : nat_le d.amount count ≡ true = grind (arith, nat_tests, l) in rw low refl)

    go : ((next : ℕ) → amount_at a ds ≤ next → moved_by round a ds next ≡ next - amount_at a ds) → (t : Bool) → is_same d.address a ≡ t → moved_by round a ds (cond t (moved round count d.amount) count) ≡ count - (cond (is_same d.address a) d.amount 0 + amount_at a ds)
    go ih true e =
        let whole : d.amount + amount_at a ds ≤ count = rw e at small in
        let here = one (omega (arith, whole)) in
        let rest = ih (count - d.amount) (omega (arith, whole)) in
        ap (moved_by round a ds) here ∙ rest ∙ rw e (omega (arith, whole))
    go ih false e =
        let whole : 0 + amount_at a ds ≤ count = rw e at small in
        let rest = ih count (omega (arith, whole)) in
        rest ∙ rw e (omega arith)
