-- Runs of one view: how many entries they stand for, of which view each is, and one more.
use Rattle.std.proofs.Common.{◌≡◌, ℕ, zero, suc, ◌+◌, ◌-◌, ◌≤◌, ◌<◌, leb, true, false, List, [], ◌∷◌, ◌++◌, arith, refl, length, get_or, slice_index_or, slice_set, replicate, ap, ◌∙◌, sym}
use Rattle.std.proofs.lemmas.Grind.{common_steps}
use Rattle.std.proofs.lemmas.List.{length-append, length-replicate, get_or-replicate, get_or_append_left, get_or-append_right, replicate_more, get_or_past}
use Rattle.std.proofs.lemmas.Bool.{leb-true}
use Rattle.std.proofs.lemmas.Bool.Decides.{leb_tells}
use Rattle.std.specs.List.Sorted.{IsNonDecreasingBy, IsPartitionPoint}
use Rattle.hs_replica.specs.declared.stamps.Run.{Run}
use Rattle.hs_replica.specs.Group.{last_view}
use Rattle.hs_replica.specs.Runs.{AreRuns, end_of, expand}

-- the last run tells where all end
pub end_last : (n : ℕ) (xs : List Run) (i : ℕ) (d : Run) → i + 1 ≡ length xs → (slice_index_or xs i d).end ≡ end_of n xs
end_last n [] i d e = absurd (omega arith)
end_last n (x ∷ []) zero d e = refl
end_last n (x ∷ y ∷ xs) zero d e = absurd (omega arith)
end_last n (x ∷ xs) (suc i) d e = end_last x.end xs i d (omega arith)

-- where all end is no lower than where they begin
end_high : (n : ℕ) (xs : List Run) → AreRuns n xs → n ≤ end_of n xs
end_high n [] h = omega arith
end_high n (x ∷ xs) h = omega (arith, h.0, end_high x.end xs h.1)

length_from : (n : ℕ) (xs : List Run) → AreRuns n xs → n + length (expand n xs) ≡ end_of n xs
length_from n [] h = omega arith
length_from n (x ∷ xs) h =
    omega (arith, length-append (replicate (x.end - n) x.view) (expand x.end xs), length-replicate (x.end - n) x.view, h.0, length_from x.end xs h.1)

-- how many entries there are
pub length_expand : (xs : List Run) → AreRuns 0 xs → end_of 0 xs ≡ length (expand 0 xs)
length_expand xs h = omega (arith, length_from 0 xs h)

-- one entry more of another view
more_from : (n : ℕ) (xs : List Run) (v e : ℕ) → AreRuns n xs → e ≡ end_of n xs + 1 → expand n (xs ++ record { view = v; end = e } ∷ []) ≡ expand n xs ++ v ∷ []
more_from n [] v e h q = let one : e - n ≡ 1 = omega (arith, q) in rw one refl
more_from n (x ∷ xs) v e h q = grind (arith, common_steps, more_from x.end xs v e h.1 q)

runs_more_from : (n : ℕ) (xs : List Run) (v e : ℕ) → AreRuns n xs → e ≡ end_of n xs + 1 → AreRuns n (xs ++ record { view = v; end = e } ∷ [])
runs_more_from n [] v e h q = (omega (arith, q), tt)
runs_more_from n (x ∷ xs) v e h q = (h.0, runs_more_from x.end xs v e h.1 q)

pub expand_more : (xs : List Run) (v e : ℕ) → AreRuns 0 xs → e ≡ end_of 0 xs + 1 → expand 0 (xs ++ record { view = v; end = e } ∷ []) ≡ expand 0 xs ++ v ∷ []
expand_more = more_from 0

pub runs_more : (xs : List Run) (v e : ℕ) → AreRuns 0 xs → e ≡ end_of 0 xs + 1 → AreRuns 0 (xs ++ record { view = v; end = e } ∷ [])
runs_more = runs_more_from 0

-- one entry more of the last view
last_from : (n : ℕ) (xs : List Run) (i : ℕ) (r d : Run) (e : ℕ) → AreRuns n xs → i + 1 ≡ length xs → r ≡ slice_index_or xs i d → e ≡ end_of n xs + 1 → expand n (slice_set xs i (record { view = r.view; end = e })) ≡ expand n xs ++ r.view ∷ []
last_from n [] i r d e h l f q = absurd (omega arith)
last_from n (x ∷ []) zero r d e h l f q =
    let one : e - n ≡ (x.end - n) + 1 = omega (arith, q, h.0) in rw f (rw one (grind (arith, common_steps, replicate_more (x.end - n) x.view)))
last_from n (x ∷ y ∷ xs) zero r d e h l f q = absurd (omega arith)
last_from n (x ∷ xs) (suc i) r d e h l f q = grind (arith, common_steps, last_from x.end xs i r d e h.1 (omega arith) f q)

runs_last_from : (n : ℕ) (xs : List Run) (i : ℕ) (v e : ℕ) → AreRuns n xs → i + 1 ≡ length xs → e ≡ end_of n xs + 1 → AreRuns n (slice_set xs i (record { view = v; end = e }))
runs_last_from n [] i v e h l q = absurd (omega arith)
runs_last_from n (x ∷ []) zero v e h l q = (omega (arith, q, h.0), tt)
runs_last_from n (x ∷ y ∷ xs) zero v e h l q = absurd (omega arith)
runs_last_from n (x ∷ xs) (suc i) v e h l q = (h.0, runs_last_from x.end xs i v e h.1 (omega arith) q)

pub expand_last : (xs : List Run) (i : ℕ) (r d : Run) (e : ℕ) → AreRuns 0 xs → i + 1 ≡ length xs → r ≡ slice_index_or xs i d → e ≡ end_of 0 xs + 1 → expand 0 (slice_set xs i (record { view = r.view; end = e })) ≡ expand 0 xs ++ r.view ∷ []
expand_last = last_from 0

pub runs_last : (xs : List Run) (i : ℕ) (v e : ℕ) → AreRuns 0 xs → i + 1 ≡ length xs → e ≡ end_of 0 xs + 1 → AreRuns 0 (slice_set xs i (record { view = v; end = e }))
runs_last = runs_last_from 0

-- the view of an entry is that of the first run that ends behind it
at_from : (n : ℕ) (xs : List Run) (place k : ℕ) → AreRuns n xs → n ≤ k → ((i : ℕ) (d : Run) → i < place → (slice_index_or xs i d).end ≤ k) → ((d : Run) → place < length xs → k < (slice_index_or xs place d).end)
    → place < length xs → (d : Run) → slice_index_or (expand n xs) (k - n) 0 ≡ (slice_index_or xs place d).view
at_from n [] place k h low below above l d = absurd (omega arith)
at_from n (x ∷ xs) zero k h low below above l d =
    get_or_append_left (replicate (x.end - n) x.view) (expand x.end xs) 0 (k - n) (omega (arith, above d l, length-replicate (x.end - n) x.view)) ∙ get_or-replicate (x.end - n) (k - n) x.view 0 (omega (arith, above d l))
at_from n (x ∷ xs) (suc place) k h low below above l d =
    let here : x.end ≤ k = below 0 d (omega arith) in
    let rest : (k - n) - (x.end - n) ≡ k - x.end = omega (arith, h.0, here) in
    get_or-append_right (replicate (x.end - n) x.view) (expand x.end xs) (x.end - n) (k - n) 0 (length-replicate (x.end - n) x.view) (omega (arith, here))
    ∙ (ap (λ j. get_or (expand x.end xs) j 0) rest
    ∙ at_from x.end xs place k h.1 here (λ i d l. below (suc i) d (omega (arith, l))) (λ d l. above d (omega (arith, l))) (omega (arith, l)) d)

-- the same from the front on
pub at_front : (xs : List Run) (place k : ℕ) → AreRuns 0 xs → ((i : ℕ) (d : Run) → i < place → (slice_index_or xs i d).end ≤ k) → ((d : Run) → place < length xs → k < (slice_index_or xs place d).end)
    → place < length xs → (d : Run) → slice_index_or (expand 0 xs) k 0 ≡ (slice_index_or xs place d).view
at_front xs place k h below above l d = let same : k - 0 ≡ k = omega arith in rw same at (at_from 0 xs place k h (omega arith) below above l d)

-- the last view is that of the last run
pub last_expand : (xs : List Run) (i : ℕ) (d : Run) → AreRuns 0 xs → i + 1 ≡ length xs → last_view (expand 0 xs) ≡ (slice_index_or xs i d).view
last_expand xs i d h l =
    let all : end_of 0 xs ≡ length (expand 0 xs) = length_expand xs h in
    let last : (slice_index_or xs i d).end ≡ end_of 0 xs = end_last 0 xs i d l in
    let some : end_of 0 xs - 1 < end_of 0 xs = positive xs i h l in
    rw (sym all) (at_front xs i (end_of 0 xs - 1) h (λ j e m. below 0 xs i j e h l m) (λ e m. omega (arith, end_last 0 xs i e l, some)) (omega (arith, l)) d)
  where
    positive : (xs : List Run) (i : ℕ) → AreRuns 0 xs → i + 1 ≡ length xs → end_of 0 xs - 1 < end_of 0 xs
    positive [] i h l = absurd (omega arith)
    positive (x ∷ xs) i h l = omega (arith, h.0, end_high x.end xs h.1)

    below : (n : ℕ) (xs : List Run) (i j : ℕ) (e : Run) → AreRuns n xs → i + 1 ≡ length xs → j < i → (slice_index_or xs j e).end ≤ end_of n xs - 1
    below n [] i j e h l m = absurd (omega arith)
    below n (x ∷ []) i j e h l m = absurd (omega (arith, l, m))
    below n (x ∷ y ∷ xs) i zero e h l m = omega (arith, h.1.0, end_high y.end xs h.1.1)
    below n (x ∷ y ∷ xs) (suc i) (suc j) e h l m = below x.end (y ∷ xs) i j e h.1 (omega arith) (omega arith)
    below n (x ∷ y ∷ xs) zero (suc j) e h l m = absurd (omega arith)

-- later runs end no earlier
pub ends_rise : (xs : List Run) → AreRuns 0 xs → IsNonDecreasingBy (λ run. run.end) xs
ends_rise xs h = rise 0 xs h
  where
    later : (n : ℕ) (xs : List Run) (j : ℕ) (d : Run) → AreRuns n xs → j < length xs → n ≤ (slice_index_or xs j d).end
    later n [] j d h l = absurd (omega arith)
    later n (x ∷ xs) zero d h l = omega (arith, h.0)
    later n (x ∷ xs) (suc j) d h l = omega (arith, h.0, later x.end xs j d h.1 (omega arith))

    rise : (n : ℕ) (xs : List Run) → AreRuns n xs → (i j : ℕ) (d : Run) → i ≤ j → j < length xs → (slice_index_or xs i d).end ≤ (slice_index_or xs j d).end
    rise n [] h i j d m l = absurd (omega arith)
    rise n (x ∷ xs) h zero zero d m l = omega arith
    rise n (x ∷ xs) h zero (suc j) d m l = later x.end xs j d h.1 (omega arith)
    rise n (x ∷ xs) h (suc i) zero d m l = absurd (omega arith)
    rise n (x ∷ xs) h (suc i) (suc j) d m l = rise x.end xs h.1 i j d (omega arith) (omega arith)

-- and behind the last there is none
pub none_behind : (xs : List Run) (k : ℕ) → AreRuns 0 xs → ((i : ℕ) (d : Run) → i < length xs → (slice_index_or xs i d).end ≤ k) → slice_index_or (expand 0 xs) k 0 ≡ 0
none_behind xs k h below = get_or_past (expand 0 xs) k 0 (omega (arith, length_expand xs h, low xs below))
  where
    low : (xs : List Run) → ((i : ℕ) (d : Run) → i < length xs → (slice_index_or xs i d).end ≤ k) → end_of 0 xs ≤ k
    low [] below = omega arith
    low (x ∷ xs) below = omega (arith, end_last 0 (x ∷ xs) (length xs) x (omega arith), below (length xs) x (omega arith))

-- what a binary search for the first run that ends behind an entry finds
pub found_at : (xs : List Run) (place k : ℕ) → AreRuns 0 xs → IsPartitionPoint (λ run. leb run.end k ≡ true) (λ run. leb run.end k ≡ false) xs place
    → place < length xs → (d : Run) → (slice_index_or xs place d).view ≡ slice_index_or (expand 0 xs) k 0
found_at xs place k h point l d = sym (at_front xs place k h
    (λ i e m. leb-true (slice_index_or xs i e).end k (point.0 i e (omega arith) m))
    (λ e m. let f = point.1 place e (omega arith) m in grind (arith, leb_tells (slice_index_or xs place e).end k))
    l d)

pub none_at : (xs : List Run) (place k : ℕ) → AreRuns 0 xs → IsPartitionPoint (λ run. leb run.end k ≡ true) (λ run. leb run.end k ≡ false) xs place
    → length xs ≤ place → 0 ≡ slice_index_or (expand 0 xs) k 0
none_at xs place k h point l = sym (none_behind xs k h (λ i e m. leb-true (slice_index_or xs i e).end k (point.0 i e (omega arith) (omega arith))))
