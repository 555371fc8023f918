-- Sums over the shards and over lists, and a function with one value set.
use Rattle.std.proofs.Common.{◌≡◌, ◌≢◌, ℕ, zero, suc, ◌+◌, ◌≤◌, ◌<◌, Bool, true, false, not, cond, List, [], ◌∷◌, inl, inr, refl, ◌∙◌, arith, map, filter, sum_by}
use Rattle.std.proofs.lemmas.Bool.{cases_eq, eq-eqb, ne_eqb}
use Rattle.std.proofs.lemmas.List.Sums.{sum_by-cons}
use Rattle.hs_deletion.specs.Reached.{Member}
use Rattle.hs_deletion.specs.Machine.{sum_below, set_at}

-- ---- a function with one value set

pub set_at_self : {X : Type 0} (g : ℕ) (x : X) (f : ℕ → X) → set_at g x f g ≡ x
unfolding set_at
set_at_self g x f = rw (eq-eqb g g refl) refl

pub set_at_other : {X : Type 0} (g : ℕ) (x : X) (f : ℕ → X) (k : ℕ) → k ≢ g → set_at g x f k ≡ f k
unfolding set_at
set_at_other g x f k n = rw (ne_eqb k g n) refl

-- ---- sums over the shards

pub sum_below_same : (n : ℕ) (f h : ℕ → ℕ) → ((k : ℕ) → k < n → f k ≡ h k) → sum_below n f ≡ sum_below n h
unfolding sum_below
sum_below_same zero f h e = refl
sum_below_same (suc n) f h e = omega (arith, e n (omega arith), sum_below_same n f h (λ k l. e k (omega arith)))

-- where two differ at one place alone
pub sum_below_one : (n g : ℕ) (f h : ℕ → ℕ) → g < n → ((k : ℕ) → k < n → k ≢ g → f k ≡ h k) → sum_below n f + h g ≡ sum_below n h + f g
unfolding sum_below
sum_below_one zero g f h l e = absurd (omega arith)
sum_below_one (suc n) g f h l e = elim (cases_eq n g) [
  | inl s ↦ (let r : sum_below n f ≡ sum_below n h = sum_below_same n f h (λ k b. e k (omega arith) (omega arith)) in base s r)
  | inr o ↦ omega (arith, e n (omega arith) o, sum_below_one n g f h (omega arith) (λ k b. e k (omega arith)))
]
  where
    base : n ≡ g → sum_below n f ≡ sum_below n h → (f n + sum_below n f) + h g ≡ (h n + sum_below n h) + f g
    base s r = rw (← s) (omega (arith, r))

pub sum_below_none : (n : ℕ) (f : ℕ → ℕ) → ((k : ℕ) → k < n → f k ≡ 0) → sum_below n f ≡ 0
unfolding sum_below
sum_below_none zero f e = refl
sum_below_none (suc n) f e = omega (arith, e n (omega arith), sum_below_none n f (λ k l. e k (omega arith)))

pub none_of_sum_below : (n : ℕ) (f : ℕ → ℕ) → sum_below n f ≡ 0 → (k : ℕ) → k < n → f k ≡ 0
unfolding sum_below
none_of_sum_below zero f e k l = absurd (omega arith)
none_of_sum_below (suc n) f e k l = elim (cases_eq k n) [
  | inl s ↦ (let z : f n ≡ 0 = omega (arith, e) in rw s z)
  | inr o ↦ none_of_sum_below n f (omega (arith, e)) k (omega arith)
]

-- a sum that isn't none has a part that isn't none
pub some_of_sum_below : (n : ℕ) (f : ℕ → ℕ) → 0 < sum_below n f → (k : ℕ) × (k < n) × (0 < f k)
unfolding sum_below
some_of_sum_below zero f p = absurd (omega arith)
some_of_sum_below (suc n) f p = go (f n) refl (some_of_sum_below n f)
  where
    go : (v : ℕ) → f n ≡ v → (0 < sum_below n f → (k : ℕ) × (k < n) × (0 < f k)) → (k : ℕ) × (k < suc n) × (0 < f k)
    go zero e ih = let k = ih (omega arith) in (k.0, omega (arith, k.1), k.2)
    go (suc v) e ih = (n, omega arith, omega arith)

-- where one part is larger by so much
pub sum_below_more : (n g : ℕ) (f h : ℕ → ℕ) (d : ℕ) → g < n → ((k : ℕ) → k < n → k ≢ g → h k ≡ f k) → h g ≡ f g + d → sum_below n h ≡ sum_below n f + d
sum_below_more n g f h d l o e = let one : sum_below n h + f g ≡ sum_below n f + h g = sum_below_one n g h f l o in omega (arith, one, e)

-- ---- sums over lists

pub sum_by_same : {X : Type 0} (w v : X → ℕ) (xs : List X) → ((x : X) → Member x xs → w x ≡ v x) → sum_by w xs ≡ sum_by v xs
sum_by_same w v [] e = refl
sum_by_same w v (x ∷ xs) e = omega (arith, sum_by-cons w x xs, sum_by-cons v x xs, e x (inl refl), sum_by_same w v xs (λ z m. e z (inr m)))

pub sum_by_none : {X : Type 0} (w : X → ℕ) (xs : List X) → ((x : X) → Member x xs → w x ≡ 0) → sum_by w xs ≡ 0
sum_by_none w [] e = refl
sum_by_none w (x ∷ xs) e = omega (arith, sum_by-cons w x xs, e x (inl refl), sum_by_none w xs (λ z m. e z (inr m)))

pub sum_by_map : {X Y : Type 0} (w : Y → ℕ) (f : X → Y) (xs : List X) → sum_by w (map f xs) ≡ sum_by (λ x. w (f x)) xs
sum_by_map w f [] = refl
sum_by_map w f (x ∷ xs) = omega (arith, sum_by-cons w (f x) (map f xs), sum_by-cons (λ x. w (f x)) x xs, sum_by_map w f xs)

pub sum_by_filter : {X : Type 0} (w : X → ℕ) (test : X → Bool) (xs : List X) → sum_by w (filter test xs) ≡ sum_by (λ x. cond (test x) (w x) 0) xs
sum_by_filter w test [] = refl
sum_by_filter w test (x ∷ xs) = go (test x) refl (sum_by_filter w test xs)
  where
    go : (t : Bool) → test x ≡ t → sum_by w (filter test xs) ≡ sum_by (λ x. cond (test x) (w x) 0) xs → sum_by w (cond t (x ∷ filter test xs) (filter test xs)) ≡ sum_by (λ x. cond (test x) (w x) 0) (x ∷ xs)
    go true t ih = let p : cond (test x) (w x) 0 ≡ w x = rw t refl in omega (arith, ih, p, sum_by-cons w x (filter test xs), sum_by-cons (λ x. cond (test x) (w x) 0) x xs)
    go false t ih = let p : cond (test x) (w x) 0 ≡ 0 = rw t refl in omega (arith, ih, p, sum_by-cons (λ x. cond (test x) (w x) 0) x xs)

-- what passes two tests
pub sum_by_both : {X : Type 0} (w : X → ℕ) (p q : X → Bool) (xs : List X) → sum_by w (filter q (filter p xs)) ≡ sum_by (λ x. cond (p x) (cond (q x) (w x) 0) 0) xs
sum_by_both w p q xs = sum_by_filter w q (filter p xs) ∙ sum_by_filter (λ x. cond (q x) (w x) 0) p xs

-- a list without some, and what these were
pub sum_by_parted : {X : Type 0} (w : X → ℕ) (test : X → Bool) (xs : List X) → sum_by w (filter (λ x. not (test x)) xs) + sum_by w (filter test xs) ≡ sum_by w xs
sum_by_parted w test [] = refl
sum_by_parted w test (x ∷ xs) = go (test x) (sum_by_parted w test xs)
  where
    go : (t : Bool) → sum_by w (filter (λ x. not (test x)) xs) + sum_by w (filter test xs) ≡ sum_by w xs → sum_by w (cond (not t) (x ∷ filter (λ x. not (test x)) xs) (filter (λ x. not (test x)) xs)) + sum_by w (cond t (x ∷ filter test xs) (filter test xs)) ≡ sum_by w (x ∷ xs)
    go true ih = omega (arith, ih, sum_by-cons w x xs, sum_by-cons w x (filter test xs))
    go false ih = omega (arith, ih, sum_by-cons w x xs, sum_by-cons w x (filter (λ x. not (test x)) xs))

-- where the parts differ by known amounts
sum_by_relate : {X Y : Type 0} (w : Y → ℕ) (u : X → ℕ) (f : X → Y) (v y : X → ℕ) (xs : List X) → ((x : X) → Member x xs → w (f x) + u x ≡ v x + y x) → sum_by w (map f xs) + sum_by u xs ≡ sum_by v xs + sum_by y xs
sum_by_relate w u f v y [] e = refl
sum_by_relate w u f v y (x ∷ xs) e = omega (arith, sum_by-cons w (f x) (map f xs), sum_by-cons u x xs, sum_by-cons v x xs, sum_by-cons y x xs, e x (inl refl), sum_by_relate w u f v y xs (λ z m. e z (inr m)))

pub sum_by_more : {X Y : Type 0} (w : Y → ℕ) (f : X → Y) (v y : X → ℕ) (xs : List X) → ((x : X) → Member x xs → w (f x) ≡ v x + y x) → sum_by w (map f xs) ≡ sum_by v xs + sum_by y xs
sum_by_more w f v y xs e = omega (arith, sum_by_relate w (λ x. 0) f v y xs (λ x k. omega (arith, e x k)), sum_by_none (λ x. 0) xs (λ x k. refl))

pub sum_by_less : {X Y : Type 0} (w : Y → ℕ) (f : X → Y) (v y : X → ℕ) (xs : List X) → ((x : X) → Member x xs → w (f x) + y x ≡ v x) → sum_by w (map f xs) + sum_by y xs ≡ sum_by v xs
sum_by_less w f v y xs e = omega (arith, sum_by_relate w y f v (λ x. 0) xs (λ x k. omega (arith, e x k)), sum_by_none (λ x. 0) xs (λ x k. refl))

-- a sum that isn't none has a part that isn't none
pub some_of_sum_by : {X : Type 0} (w : X → ℕ) (xs : List X) → 0 < sum_by w xs → (x : X) × Member x xs × (0 < w x)
some_of_sum_by {X = X} w [] p = absurd (omega arith)
some_of_sum_by {X = X} w (x ∷ xs) p = go (w x) refl (some_of_sum_by w xs)
  where
    go : (v : ℕ) → w x ≡ v → (0 < sum_by w xs → (y : X) × Member y xs × (0 < w y)) → (y : X) × Member y (x ∷ xs) × (0 < w y)
    go zero e ih = let k = ih (omega (arith, p, e, sum_by-cons w x xs)) in (k.0, inr k.1, k.2)
    go (suc v) e ih = (x, inl refl, omega arith)

pub part_of_sum_by : {X : Type 0} (w : X → ℕ) (xs : List X) (x : X) → Member x xs → w x ≤ sum_by w xs
part_of_sum_by w [] x m = elim m [ ]
part_of_sum_by w (y ∷ ys) x (inl s) = rw s (omega (arith, sum_by-cons w y ys))
part_of_sum_by w (y ∷ ys) x (inr m) = omega (arith, part_of_sum_by w ys x m, sum_by-cons w y ys)
