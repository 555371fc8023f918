-- Changes by each number of a range, and lists over a range, one number at a time.
use Rattle.std.proofs.Common.{◌≡◌, ◌∙◌, ap, ℕ, ◌+◌, ◌-◌, ◌<◌, ◌≤◌, Bool, true, false, List, [], ◌∷◌, ◌++◌, Option, Some, None, map, replicate, refl, arith, zero, suc}
use Rattle.std.proofs.lemmas.List.FromFn.{map-range_with_len_more}
use Rattle.std.specs.List.{range_with_len}
use Rattle.std.specs.Prelude.{find}
use Rattle.hs_awaiting.specs.Words.{each}
use Rattle.hs_core_words.specs.Opening.{first_view}
use Rattle.hs_members.specs.Members.{Members}

pub replicate_more : {A : Type 0} (n : ℕ) (x : A) → replicate (n + 1) x ≡ replicate n x ++ x ∷ []
replicate_more zero x = refl
replicate_more (suc n) x =
    let e : suc n + 1 ≡ suc (n + 1) = omega arith in
    rw e (ap (λ xs. x ∷ xs) (replicate_more n x))

pub first_views_more : (m : Members) (views : List ℕ) (n : ℕ) → map (first_view m views) (range_with_len 0 (n + 1)) ≡ map (first_view m views) (range_with_len 0 n) ++ first_view m views n ∷ []
first_views_more m views n = map-range_with_len_more (first_view m views) 0 n n (omega arith)

-- a range begins with its first number
range_next : (s n : ℕ) → s < n → range_with_len s (n - s) ≡ s ∷ range_with_len (s + 1) (n - (s + 1))
range_next s n h =
    let d : n - s ≡ suc (n - (s + 1)) = omega (arith, h) in
    rw d refl

range_end : (s n : ℕ) → n ≤ s → range_with_len s (n - s) ≡ []
range_end s n h =
    let d : n - s ≡ 0 = omega (arith, h) in
    rw d refl

range_begin : (n : ℕ) → range_with_len 0 (n - 0) ≡ range_with_len 0 n
range_begin n =
    let d : n - 0 ≡ n = omega arith in
    rw d refl

-- the same of a change by each
pub each_range_next : {A : Type 0} (f : ℕ → A → A) (s n : ℕ) (x : A) → s < n → each (range_with_len s (n - s)) f x ≡ each (range_with_len (s + 1) (n - (s + 1))) f (f s x)
each_range_next f s n x h = ap (λ xs. each xs f x) (range_next s n h)

pub each_range_end : {A : Type 0} (f : ℕ → A → A) (s n : ℕ) (x : A) → n ≤ s → each (range_with_len s (n - s)) f x ≡ x
each_range_end f s n x h = ap (λ xs. each xs f x) (range_end s n h)

pub each_range_begin : {A : Type 0} (f : ℕ → A → A) (n : ℕ) (x : A) → each (range_with_len 0 (n - 0)) f x ≡ each (range_with_len 0 n) f x
each_range_begin f n x = ap (λ xs. each xs f x) (range_begin n)

-- and of the first number that passes a test
pub find_range_skips : (p : ℕ → Bool) (s n : ℕ) → s < n → p s ≡ false → find p (range_with_len s (n - s)) ≡ find p (range_with_len (s + 1) (n - (s + 1)))
find_range_skips p s n h e = ap (find p) (range_next s n h) ∙ rw e refl

pub find_range_found : (p : ℕ → Bool) (s n : ℕ) → s < n → p s ≡ true → find p (range_with_len s (n - s)) ≡ Some s
find_range_found p s n h e = ap (find p) (range_next s n h) ∙ rw e refl

pub find_range_end : (p : ℕ → Bool) (s n : ℕ) → n ≤ s → find p (range_with_len s (n - s)) ≡ None
find_range_end p s n h = ap (find p) (range_end s n h)

pub find_range_begin : (p : ℕ → Bool) (n : ℕ) → find p (range_with_len 0 (n - 0)) ≡ find p (range_with_len 0 n)
find_range_begin p n = ap (find p) (range_begin n)
