-- Lists over a range of numbers, one number at a time.
use Rattle.std.proofs.Common.{◌≡◌, ◌∙◌, ap, sym, ℕ, ◌+◌, ◌-◌, ◌<◌, ◌≤◌, ◌||◌, Bool, true, false, List, [], ◌∷◌, ◌++◌, Option, Some, None, map, drop, take, refl, subst, arith, zero, suc}
use Rattle.std.proofs.lemmas.List.{append-nil, append_assoc}
use Rattle.std.proofs.lemmas.List.Elements.{filter_map-append}
use Rattle.std.proofs.lemmas.List.FromFn.{map-range_with_len_more}
use Rattle.std.specs.List.{list_any, range_with_len}
use Rattle.std.specs.Option.{option_or}
use Rattle.std.specs.Prelude.{filter_map, find, flat_map, slice_get}

-- a range begins with its first number
range_next : (s n : ℕ) → s < n → range_with_len s (n - s) ≡ s ∷ range_with_len (s + 1) (n - (s + 1))
range_next s n h =
    let d : n - s ≡ suc (n - (s + 1)) = omega (arith, h) in
    rw d refl

range_end : (s n : ℕ) → n ≤ s → range_with_len s (n - s) ≡ []
range_end s n h =
    let d : n - s ≡ 0 = omega (arith, h) in
    rw d refl

-- ---- the first number that gives something

pub first_range_skips : {A : Type 0} (f : ℕ → Option A) (s n : ℕ) → s < n → f s ≡ None → slice_get (filter_map f (range_with_len s (n - s))) 0 ≡ slice_get (filter_map f (range_with_len (s + 1) (n - (s + 1)))) 0
first_range_skips f s n h e = ap (λ xs. slice_get (filter_map f xs) 0) (range_next s n h) ∙ rw e refl

pub first_range_found : {A : Type 0} (f : ℕ → Option A) (s n : ℕ) (x : A) → s < n → f s ≡ Some x → slice_get (filter_map f (range_with_len s (n - s))) 0 ≡ Some x
first_range_found f s n x h e = ap (λ xs. slice_get (filter_map f xs) 0) (range_next s n h) ∙ rw e refl

pub first_range_end : {A : Type 0} (f : ℕ → Option A) (s n : ℕ) → n ≤ s → slice_get (filter_map f (range_with_len s (n - s))) 0 ≡ None
first_range_end f s n h = ap (λ xs. slice_get (filter_map f xs) 0) (range_end s n h)

-- ---- the first number that passes a test

pub find_range_skips : (p : ℕ → Bool) (s n : ℕ) → s < n → p s ≡ false → find p (range_with_len s (n - s)) ≡ find p (range_with_len (s + 1) (n - (s + 1)))
find_range_skips p s n h e = ap (find p) (range_next s n h) ∙ rw e refl

pub find_range_found : (p : ℕ → Bool) (s n : ℕ) → s < n → p s ≡ true → find p (range_with_len s (n - s)) ≡ Some s
find_range_found p s n h e = ap (find p) (range_next s n h) ∙ rw e refl

pub find_range_end : (p : ℕ → Bool) (s n : ℕ) → n ≤ s → find p (range_with_len s (n - s)) ≡ None
find_range_end p s n h = ap (find p) (range_end s n h)

-- ---- a range in two parts

pub drop_range : (k s n : ℕ) → drop k (range_with_len s n) ≡ range_with_len (s + k) (n - k)
drop_range zero s n =
    let a : s + 0 ≡ s = omega arith in
    let b : n - 0 ≡ n = omega arith in
    rw (a, b) refl
drop_range (suc k) s zero =
    let d : 0 - suc k ≡ 0 = omega arith in
    rw d refl
drop_range (suc k) s (suc n) =
    let a : s + suc k ≡ (s + 1) + k = omega arith in
    let b : suc n - suc k ≡ n - k = omega arith in
    rw (a, b) (drop_range k (s + 1) n)

pub take_range : (k s n : ℕ) → k ≤ n → take k (range_with_len s n) ≡ range_with_len s k
take_range zero s n h = refl
take_range (suc k) s zero h = absurd (omega (arith, h))
take_range (suc k) s (suc n) h = ap (λ xs. s ∷ xs) (take_range k (s + 1) n (omega (arith, h)))

-- those from one on, as a find goes over them
pub find_drop_range : (p : ℕ → Bool) (k n : ℕ) → find p (drop k (range_with_len 0 n)) ≡ find p (range_with_len k (n - k))
find_drop_range p k n =
    let a : 0 + k ≡ k = omega arith in
    ap (find p) (drop_range k 0 n ∙ rw a refl)

-- ---- more of a range

pub map_range_more : {A : Type 0} (f : ℕ → A) (n : ℕ) → map f (range_with_len 0 (n + 1)) ≡ map f (range_with_len 0 n) ++ f n ∷ []
map_range_more f n = map-range_with_len_more f 0 n n (omega arith)

flat_more : {A : Type 0} (f : ℕ → List A) (s n : ℕ) → flat_map f (range_with_len s (n + 1)) ≡ flat_map f (range_with_len s n) ++ f (s + n)
flat_more f s zero =
    let a : s + 0 ≡ s = omega arith in
    rw a (append-nil (f s))
flat_more f s (suc n) =
    let e : suc n + 1 ≡ suc (n + 1) = omega arith in
    let a : s + suc n ≡ (s + 1) + n = omega arith in
    rw (e, a) (ap (λ xs. f s ++ xs) (flat_more f (s + 1) n) ∙ sym (append_assoc (f s) (flat_map f (range_with_len (s + 1) n)) (f ((s + 1) + n))))

pub flat_map_range_more : {A : Type 0} (f : ℕ → List A) (n : ℕ) → flat_map f (range_with_len 0 (n + 1)) ≡ flat_map f (range_with_len 0 n) ++ f n
flat_map_range_more f n =
    let a : 0 + n ≡ n = omega arith in
    flat_more f 0 n ∙ rw a refl

-- ---- turns, from one peer on and round

first_append : {A : Type 0} (xs ys : List A) → slice_get (xs ++ ys) 0 ≡ option_or (slice_get xs 0) (slice_get ys 0)
first_append [] ys = refl
first_append (x ∷ xs) ys = refl

pub round_of_turns : {A : Type 0} (f : ℕ → Option A) (k n : ℕ) → k ≤ n
    → slice_get (filter_map f (drop k (range_with_len 0 n) ++ take k (range_with_len 0 n))) 0
    ≡ option_or (slice_get (filter_map f (range_with_len k (n - k))) 0) (slice_get (filter_map f (range_with_len 0 (k - 0))) 0)
round_of_turns f k n h =
    let a : 0 + k ≡ k = omega arith in
    let b : k - 0 ≡ k = omega arith in
    ap (λ xs. slice_get xs 0) (filter_map-append f (drop k (range_with_len 0 n)) (take k (range_with_len 0 n)))
    ∙ first_append (filter_map f (drop k (range_with_len 0 n))) (filter_map f (take k (range_with_len 0 n)))
    ∙ ap (λ xs. option_or (slice_get (filter_map f xs) 0) (slice_get (filter_map f (take k (range_with_len 0 n))) 0)) (drop_range k 0 n ∙ rw a refl)
    ∙ ap (λ xs. option_or (slice_get (filter_map f (range_with_len k (n - k))) 0) (slice_get (filter_map f xs) 0)) (take_range k 0 n h ∙ rw b refl)

-- ---- whether some number of a range passes a test

pub any_range_skips : (p : ℕ → Bool) (s n : ℕ) → s < n → p s ≡ false → list_any p (range_with_len s (n - s)) ≡ list_any p (range_with_len (s + 1) (n - (s + 1)))
any_range_skips p s n h e = ap (list_any p) (range_next s n h) ∙ rw e refl

pub any_range_found : (p : ℕ → Bool) (s n : ℕ) → s < n → p s ≡ true → list_any p (range_with_len s (n - s)) ≡ true
any_range_found p s n h e = ap (list_any p) (range_next s n h) ∙ rw e refl

pub any_range_end : (p : ℕ → Bool) (s n : ℕ) → n ≤ s → list_any p (range_with_len s (n - s)) ≡ false
any_range_end p s n h = ap (list_any p) (range_end s n h)

pub any_range_begin : (p : ℕ → Bool) (n : ℕ) → list_any p (range_with_len 0 (n - 0)) ≡ list_any p (range_with_len 0 n)
any_range_begin p n =
    let d : n - 0 ≡ n = omega arith in
    rw d refl

any_from : (p q : ℕ → Bool) (s n : ℕ) → ((k : ℕ) → k < n → p (s + k) ≡ q (s + k)) → list_any p (range_with_len s n) ≡ list_any q (range_with_len s n)
any_from p q s zero h = refl
any_from p q s (suc n) h =
    let a : s + 0 ≡ s = omega arith in
    let first : p s ≡ q s = subst (λ k. p k ≡ q k) a (h 0 (omega arith)) in
    let rest = any_from p q (s + 1) n (λ k less. subst (λ i. p i ≡ q i) (next k) (h (suc k) (omega (arith, less)))) in
    λ i. first i || rest i
  where
    next : (k : ℕ) → s + suc k ≡ (s + 1) + k
    next k = omega arith

pub any_same : (p q : ℕ → Bool) (n : ℕ) → ((k : ℕ) → k < n → p k ≡ q k) → list_any p (range_with_len 0 n) ≡ list_any q (range_with_len 0 n)
any_same p q n h = any_from p q 0 n (λ k less. subst (λ i. p i ≡ q i) (sym (plus k)) (h k less))
  where
    plus : (k : ℕ) → 0 + k ≡ k
    plus k = omega arith
