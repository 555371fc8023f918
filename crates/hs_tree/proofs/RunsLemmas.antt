-- Runs of lists, and the heights of files.
use Rattle.std.proofs.Common.{◌≡◌, ℕ, ◌+◌, ◌*◌, ◌-◌, ◌<◌, ◌≤◌, List, [], ◌∷◌, ◌++◌, zero, suc, refl, sym, ap, ◌∙◌, arith, tests, length, take, drop, append-nil, true, false, nat_le, length-append, length-drop}
use Rattle.std.proofs.lemmas.List.Folds.{concat-append}
use Rattle.std.proofs.lemmas.Grind.{common_steps}
use Rattle.std.specs.List.{concat}
use Rattle.hs_tree.specs.Storing.{AreFull, IsCut}
use Rattle.hs_tree.specs.Trees.{height, height_from, runs, runs_in, span, stored_cut}

-- ---- taking a whole list

pub take-all : {A : Type 0} (n : ℕ) (xs : List A) → length xs ≤ n → take n xs ≡ xs
take-all n [] h = grind (arith, common_steps)
take-all zero (x ∷ xs) h = absurd (omega (arith, h))
take-all (suc n) (x ∷ xs) h = ap (λ z. x ∷ z) (take-all n xs (omega (arith, h)))

drop-all : {A : Type 0} (n : ℕ) (xs : List A) → length xs ≤ n → drop n xs ≡ []
drop-all n [] h = grind (arith, common_steps)
drop-all zero (x ∷ xs) h = absurd (omega (arith, h))
drop-all (suc n) (x ∷ xs) h = drop-all n xs (omega (arith, h))

take-front : {A : Type 0} (xs ys : List A) → take (length xs) (xs ++ ys) ≡ xs
take-front [] ys = refl
take-front (x ∷ xs) ys = ap (λ z. x ∷ z) (take-front xs ys)

drop-front : {A : Type 0} (xs ys : List A) → drop (length xs) (xs ++ ys) ≡ ys
drop-front [] ys = refl
drop-front (x ∷ xs) ys = drop-front xs ys

-- ---- runs

-- with turns enough their number doesn't matter
pub turns_enough : {A : Type 0} (t u n : ℕ) (xs : List A) → 0 < n → length xs ≤ t → length xs ≤ u → runs_in t n xs ≡ runs_in u n xs
turns_enough t u n [] p h k = refl
turns_enough zero u n (x ∷ xs) p h k = absurd (omega (arith, h))
turns_enough (suc t) zero n (x ∷ xs) p h k = absurd (omega (arith, k))
turns_enough (suc t) (suc u) n (x ∷ xs) p h k =
    let shorter : length (drop n (x ∷ xs)) ≡ length (x ∷ xs) - n = length-drop n (x ∷ xs) in
    ap (λ z. take n (x ∷ xs) ∷ z) (turns_enough t u n (drop n (x ∷ xs)) p (omega (arith, shorter, h, p)) (omega (arith, shorter, k, p)))

pub runs-one : {A : Type 0} (n : ℕ) (c : List A) → 0 < length c → length c ≤ n → runs n c ≡ c ∷ []
unfolding runs
runs-one n [] p h = absurd (omega (arith, p))
runs-one n (x ∷ xs) p h =
    let t : take n (x ∷ xs) ≡ x ∷ xs = take-all n (x ∷ xs) h in
    let d : drop n (x ∷ xs) ≡ [] = drop-all n (x ∷ xs) h in
    λ i. t i ∷ runs_in (length xs) n (d i)

pub runs-cons : {A : Type 0} (n : ℕ) (c rest : List A) → 0 < n → length c ≡ n → runs n (c ++ rest) ≡ c ∷ runs n rest
unfolding runs
runs-cons n [] rest p h = absurd (omega (arith, p, h))
runs-cons n (x ∷ xs) rest p h =
    let t : take n ((x ∷ xs) ++ rest) ≡ x ∷ xs = ap (λ k. take k ((x ∷ xs) ++ rest)) (sym h) ∙ take-front (x ∷ xs) rest in
    let d : drop n ((x ∷ xs) ++ rest) ≡ rest = ap (λ k. drop k ((x ∷ xs) ++ rest)) (sym h) ∙ drop-front (x ∷ xs) rest in
    let both : length (xs ++ rest) ≡ length xs + length rest = length-append xs rest in
    (λ i. t i ∷ runs_in (length (xs ++ rest)) n (d i)) ∙ ap (λ z. (x ∷ xs) ∷ z) (turns_enough (length (xs ++ rest)) (length rest) n rest p (omega (arith, both)) (omega arith))

pub runs-concat : (n : ℕ) (cs : List (List ℕ)) → 0 < n → IsCut n cs → runs n (concat cs) ≡ cs
unfolding runs
runs-concat n [] p h = refl
runs-concat n (c ∷ []) p h = ap (λ z. runs n z) (append-nil c) ∙ runs-one n c h.0 h.1
runs-concat n (c ∷ d ∷ cs) p h = runs-cons n c (concat (d ∷ cs)) p h.0 ∙ ap (λ z. c ∷ z) (runs-concat n (d ∷ cs) p h.1)

pub full_cut : (n : ℕ) (cs : List (List ℕ)) → 0 < n → AreFull n cs → IsCut n cs
full_cut n [] p h = tt
full_cut n (c ∷ []) p h = let k : length c ≡ n = h.0 in (omega (arith, k, p), omega (arith, k))
full_cut n (c ∷ d ∷ cs) p h = (h.0, full_cut n (d ∷ cs) p h.1)

pub full_cut_last : (n : ℕ) (cs : List (List ℕ)) (c : List ℕ) → AreFull n cs → 0 < length c → length c ≤ n → IsCut n (cs ++ c ∷ [])
full_cut_last n [] c h p k = (p, k)
full_cut_last n (d ∷ []) c h p k = (h.0, (p, k))
full_cut_last n (d ∷ e ∷ cs) c h p k = (h.0, full_cut_last n (e ∷ cs) c h.1 p k)

pub concat-last : (cs : List (List ℕ)) (c : List ℕ) → concat (cs ++ c ∷ []) ≡ concat cs ++ c
concat-last cs c = concat-append cs (c ∷ []) ∙ ap (λ z. concat cs ++ z) (append-nil c)

pub length-full : (n : ℕ) (cs : List (List ℕ)) → AreFull n cs → length (concat cs) ≡ n * length cs
length-full n [] h = omega arith
length-full n (c ∷ cs) h =
    let k : length c ≡ n = h.0 in
    let rest : length (concat cs) ≡ n * length cs = length-full n cs h.1 in
    let both : length (c ++ concat cs) ≡ length c + length (concat cs) = length-append c (concat cs) in
    omega (arith, k, rest, both)

-- ---- heights

le-true : (a b : ℕ) → a ≤ b → nat_le a b ≡ true
le-true a b h = grind (arith, tests, h)

le-false : (a b : ℕ) → b < a → nat_le a b ≡ false
le-false a b h = grind (arith, tests, h)

pub height-0 : (n : ℕ) → n ≤ 65536 → height stored_cut n ≡ 0
unfolding height height_from span
height-0 n h = rw (le-true n 65536 h) refl

pub height-1 : (n : ℕ) → 65536 < n → n ≤ 4194304 → height stored_cut n ≡ 1
unfolding height height_from span
height-1 n p h = rw (le-false n 65536 p, le-true n 4194304 h) refl

pub height-2 : (n : ℕ) → 4194304 < n → height stored_cut n ≡ 2
unfolding height height_from span
height-2 n p = rw (le-false n 65536 (omega (arith, p)), le-false n 4194304 p) refl

pub span-0 : span stored_cut 0 ≡ 65536
unfolding span
span-0 = refl

pub span-1 : span stored_cut 1 ≡ 4194304
unfolding span
span-1 = refl

pub span-positive : (h : ℕ) → 0 < span stored_cut h
unfolding span
span-positive zero = omega arith
span-positive (suc h) = let p : 0 < span stored_cut h = span-positive h in omega (arith, p)
