-- How many of some things there are, and how many there can be where each has a number of its own.
use Rattle.std.proofs.Common.{◌≡◌, ◌∙◌, ap, subst, ℕ, zero, suc, ◌+◌, ◌*◌, ◌<◌, ◌≤◌, ◌==◌, Bool, true, false, cond, List, [], ◌∷◌, length, Option, Some, None, refl, arith, tests, count_by, nat_le, slice_get, slice_index, slice_set}
use Rattle.std.proofs.lemmas.List.Recursion.{is_count_by}
use Rattle.std.proofs.Math.Nat.{suc-mul}
use Rattle.std.specs.List.{AllByRecursion}
use Rattle.std.specs.Option.{option_map_or}

abbrev pub one : Bool → ℕ
one b = cond b 1 0

abbrev pub many : {X : Type 0} → (X → Bool) → List X → ℕ
many p [] = 0
many p (x ∷ xs) = cond (p x) 1 0 + many p xs

pub many-counted : {X : Type 0} (p : X → Bool) (xs : List X) → many p xs ≡ count_by p xs
many-counted p xs = is_count_by (λ ys. many p ys) p refl (λ x ys. go (p x) (many p ys)) xs
  where
    go : (b : Bool) (n : ℕ) → cond b 1 0 + n ≡ cond b (1 + n) n
    go true n = refl
    go false n = omega arith

pub many-all : {X : Type 0} (xs : List X) → many (λ x. true) xs ≡ length xs
many-all [] = refl
many-all (x ∷ xs) = omega (arith, many-all xs)

-- none is so
pub many_none : {X : Type 0} (p : X → Bool) (xs : List X) → ((i : ℕ) (x : X) → slice_get xs i ≡ Some x → p x ≡ true → ⊥) → many p xs ≡ 0
many_none p [] none = refl
many_none p (x ∷ xs) none = go (many_none p xs (λ i y at yes. none (suc i) y at yes)) (p x) refl
  where
    go : many p xs ≡ 0 → (b : Bool) → p x ≡ b → cond b 1 0 + many p xs ≡ 0
    go rest true e = absurd (none zero x refl e)
    go rest false e = omega (arith, rest)

-- no two are so
pub many_once : {X : Type 0} (p : X → Bool) (xs : List X)
    → ((i j : ℕ) (x y : X) → slice_get xs i ≡ Some x → slice_get xs j ≡ Some y → p x ≡ true → p y ≡ true → i ≡ j) → many p xs ≤ 1
many_once p [] once = omega arith
many_once p (x ∷ xs) once =
    go (many_once p xs (λ i j y z first second yes too. let same : suc i ≡ suc j = once (suc i) (suc j) y z first second yes too in omega (arith, same))) (p x) refl
  where
    none : p x ≡ true → many p xs ≡ 0
    none e = many_none p xs (λ j y at yes. let same : zero ≡ suc j = once zero (suc j) x y refl at e yes in absurd (omega (arith, same)))

    go : many p xs ≤ 1 → (b : Bool) → p x ≡ b → cond b 1 0 + many p xs ≤ 1
    go rest true e = omega (arith, none e)
    go rest false e = omega (arith, rest)

-- what is so is so otherwise
pub many_le : {X : Type 0} (p q : X → Bool) (xs : List X) → ((i : ℕ) (x : X) → slice_get xs i ≡ Some x → p x ≡ true → q x ≡ true) → many p xs ≤ many q xs
many_le p q [] than = omega arith
many_le p q (x ∷ xs) than = go (many_le p q xs (λ i y at yes. than (suc i) y at yes)) (p x) (q x) refl refl
  where
    go : many p xs ≤ many q xs → (a b : Bool) → p x ≡ a → q x ≡ b → cond a 1 0 + many p xs ≤ cond b 1 0 + many q xs
    go rest true true e f = omega (arith, rest)
    go rest true false e f = absurd (cc (than zero x refl e, f))
    go rest false true e f = omega (arith, rest)
    go rest false false e f = omega (arith, rest)

-- ---- of each number so many

abbrev pub sum_from : ℕ → ℕ → (ℕ → ℕ) → ℕ
sum_from n zero f = 0
sum_from n (suc m) f = f n + sum_from (suc n) m f

pub sum_ones : (n m : ℕ) → sum_from n m (λ k. 1) ≡ m
sum_ones n zero = refl
sum_ones n (suc m) = omega (arith, sum_ones (suc n) m)

pub sum_both : (f g : ℕ → ℕ) (n m : ℕ) → sum_from n m (λ k. f k + g k) ≡ sum_from n m f + sum_from n m g
sum_both f g n zero = refl
sum_both f g n (suc m) = omega (arith, sum_both f g (suc n) m)

-- ---- things that have numbers

module _ {X : Type 0} (key : X → Option ℕ) where
  abbrev pub at_key : ℕ → X → Bool
  at_key n x = option_map_or (λ k. k == n) (key x) false

  abbrev pub from_key : ℕ → X → Bool
  from_key n x = option_map_or (λ k. nat_le n k) (key x) false

  one_splits : (n : ℕ) (o : Option ℕ)
      → cond (option_map_or (λ k. nat_le n k) o false) 1 0 ≤ cond (option_map_or (λ k. k == n) o false) 1 0 + cond (option_map_or (λ k. nat_le (suc n) k) o false) 1 0
  one_splits n None = omega arith
  one_splits n (Some k) = go (k == n) (nat_le (suc n) k) (nat_le n k) refl refl refl
    where
      go : (a b c : Bool) → (k == n) ≡ a → nat_le (suc n) k ≡ b → nat_le n k ≡ c → cond c 1 0 ≤ cond a 1 0 + cond b 1 0
      go a b false e f g = omega arith
      go true b true e f g = omega arith
      go false true true e f g = omega arith
      go false false true e f g = absurd (grind (arith, tests, e, f, g))

  splits : (n : ℕ) (xs : List X) → many (from_key n) xs ≤ many (at_key n) xs + many (from_key (suc n)) xs
  splits n [] = omega arith
  splits n (x ∷ xs) = omega (arith, one_splits n (key x), splits n xs)

  -- each number of these is had at most once, and only where the test passes; and no number is above them
  pub keyed : {A : Type 0} (t : A → Bool) (xs : List X) (ls : List A) (n : ℕ)
      → ((i : ℕ) (l : A) → slice_get ls i ≡ Some l → many (at_key (n + i)) xs ≤ cond (t l) 1 0)
      → many (from_key (n + length ls)) xs ≡ 0 → many (from_key n) xs ≤ many t ls
  keyed t xs [] n caps top = let same : n + 0 ≡ n = omega arith in let is : many (from_key n) xs ≡ 0 = subst (λ k. many (from_key k) xs ≡ 0) same top in omega (arith, is)
  keyed t xs (l ∷ ls) n caps top =
      let first : n + 0 ≡ n = omega arith in
      let here : many (at_key n) xs ≤ cond (t l) 1 0 = subst (λ k. many (at_key k) xs ≤ cond (t l) 1 0) first (caps zero l refl) in
      let last : n + suc (length ls) ≡ suc n + length ls = omega arith in
      let rest : many (from_key (suc n)) xs ≤ many t ls =
      keyed t xs ls (suc n)
      (λ i k at. let same : n + suc i ≡ suc n + i = omega arith in subst (λ m. many (at_key m) xs ≤ cond (t k) 1 0) same (caps (suc i) k at))
      (subst (λ m. many (from_key m) xs ≡ 0) last top) in
      omega (arith, here, rest, splits n xs)

  -- each number of these is had at most so often as is said of it, and no number is above them
  pub keyed_sum : (f : ℕ → ℕ) (xs : List X) (n m : ℕ) → ((i : ℕ) → i < m → many (at_key (n + i)) xs ≤ f (n + i)) → many (from_key (n + m)) xs ≡ 0 → many (from_key n) xs ≤ sum_from n m f
  keyed_sum f xs n zero caps top = let same : n + 0 ≡ n = omega arith in let is : many (from_key n) xs ≡ 0 = subst (λ k. many (from_key k) xs ≡ 0) same top in omega (arith, is)
  keyed_sum f xs n (suc m) caps top =
      let first : n + 0 ≡ n = omega arith in
      let here : many (at_key n) xs ≤ f n = subst (λ k. many (at_key k) xs ≤ f k) first (caps zero (omega arith)) in
      let last : n + suc m ≡ suc n + m = omega arith in
      let rest : many (from_key (suc n)) xs ≤ sum_from (suc n) m f =
      keyed_sum f xs (suc n) m
      (λ i low. let same : n + suc i ≡ suc n + i = omega arith in subst (λ k. many (at_key k) xs ≤ f k) same (caps (suc i) (omega (arith, low))))
      (subst (λ k. many (from_key k) xs ≡ 0) last top) in
      omega (arith, here, rest, splits n xs)

-- ---- totals

abbrev pub total : List ℕ → ℕ
total [] = 0
total (x ∷ xs) = x + total xs

abbrev pub times : ℕ → ℕ → ℕ
times zero k = 0
times (suc n) k = k + times n k

pub times-is : (n k : ℕ) → times n k ≡ n * k
times-is zero k = omega arith
times-is (suc n) k = omega (arith, times-is n k, suc-mul n k)

pub times-sum : (n a b : ℕ) → times n (a + b) ≡ times n a + times n b
times-sum zero a b = refl
times-sum (suc n) a b = omega (arith, times-sum n a b)

pub times-more : (m n k : ℕ) → times (m + n) k ≡ times m k + times n k
times-more zero n k = let same : 0 + n ≡ n = omega arith in ap (λ j. times j k) same ∙ (omega arith)
times-more (suc m) n k = let same : suc m + n ≡ suc (m + n) = omega arith in ap (λ j. times j k) same ∙ (omega (arith, times-more m n k))

pub times_le : (n a b : ℕ) → a ≤ b → times n a ≤ times n b
times_le zero a b h = omega arith
times_le (suc n) a b h = omega (arith, h, times_le n a b h)

-- each is at most so much, or lacks at most so much of it
pub total_most : (xs : List ℕ) (b : ℕ) → ((i : ℕ) → i < length xs → slice_index xs i ≤ b) → total xs ≤ times (length xs) b
total_most [] b each = omega arith
total_most (x ∷ xs) b each =
    let here : x ≤ b = each zero (omega arith) in
    let rest : total xs ≤ times (length xs) b = total_most xs b (λ i low. each (suc i) (omega (arith, low))) in
    omega (arith, here, rest)

pub total_least : (xs : List ℕ) (a c : ℕ) → ((i : ℕ) → i < length xs → a ≤ slice_index xs i + c) → times (length xs) a ≤ total xs + times (length xs) c
total_least [] a c each = omega arith
total_least (x ∷ xs) a c each =
    let here : a ≤ x + c = each zero (omega arith) in
    let rest : times (length xs) a ≤ total xs + times (length xs) c = total_least xs a c (λ i low. each (suc i) (omega (arith, low))) in
    omega (arith, here, rest)

pub total_set : (xs : List ℕ) (i v : ℕ) → i < length xs → total (slice_set xs i v) + slice_index xs i ≡ total xs + v
total_set [] i v low = absurd (omega (arith, low))
total_set (x ∷ xs) zero v low = omega arith
total_set (x ∷ xs) (suc i) v low = omega (arith, total_set xs i v (omega (arith, low)))

pub set_long : (xs : List ℕ) (i v : ℕ) → length (slice_set xs i v) ≡ length xs
set_long [] i v = refl
set_long (x ∷ xs) zero v = refl
set_long (x ∷ xs) (suc i) v = omega (arith, set_long xs i v)

-- ---- lists of which each is at least so much

abbrev pub AllAbove : ℕ → List ℕ → Type 0
AllAbove q xs = AllByRecursion (λ x. q ≤ x) xs

pub above_less : (p q : ℕ) (xs : List ℕ) → p ≤ q → AllAbove q xs → AllAbove p xs
above_less p q [] low all = tt
above_less p q (x ∷ xs) low all = (omega (arith, low, all.0), above_less p q xs low all.1)

pub above_set : (q : ℕ) (xs : List ℕ) (i v : ℕ) → slice_index xs i ≤ v → AllAbove q xs → AllAbove q (slice_set xs i v)
above_set q [] i v low all = tt
above_set q (x ∷ xs) zero v low all = (omega (arith, low, all.0), all.1)
above_set q (x ∷ xs) (suc i) v low all = (all.0, above_set q xs i v low all.1)

pub above_each : (q : ℕ) (xs : List ℕ) → ((i : ℕ) → i < length xs → q ≤ slice_index xs i) → AllAbove q xs
above_each q [] each = tt
above_each q (x ∷ xs) each = (each zero (omega arith), above_each q xs (λ i low. each (suc i) (omega (arith, low))))

pub above_at : (q : ℕ) (xs : List ℕ) (i : ℕ) → i < length xs → AllAbove q xs → q ≤ slice_index xs i
above_at q [] i low all = absurd (omega (arith, low))
above_at q (x ∷ xs) zero low all = all.0
above_at q (x ∷ xs) (suc i) low all = above_at q xs i (omega (arith, low)) all.1
