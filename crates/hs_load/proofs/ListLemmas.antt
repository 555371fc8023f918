-- Lists with places.
use Rattle.std.proofs.Common.{◌≡◌, ◌∙◌, ◌⊎◌, inl, inr, ap, sym, subst, ℕ, zero, suc, ◌+◌, ◌<◌, List, [], ◌∷◌, ◌++◌, Option, Some, None, Result, Ok, Err, length, length-append, append_assoc, get_or, take, drop, map, refl, arith}
use Rattle.std.proofs.Math.Seq.{take-append_seam}
use Rattle.std.proofs.lemmas.Bool.{cases_eq}
use Rattle.std.specs.Prelude.{All, OnErr, OnOk, replicate, slice_get, slice_set}

none_not : {T : Type 0} (x : T) → None ≡ Some x → ⊥
none_not x e = grind arith

-- an item at a place is the one that was put there, or stood there before
pub get_set : {T : Type 0} (xs : List T) (i k : ℕ) (y z : T) → slice_get (slice_set xs i y) k ≡ Some z → ((k ≡ i) × (z ≡ y)) ⊎ (slice_get xs k ≡ Some z)
get_set [] i k y z e = inr e
get_set (x ∷ xs) zero zero y z e = inl (refl, cc)
get_set (x ∷ xs) zero (suc k) y z e = inr e
get_set (x ∷ xs) (suc i) zero y z e = inr e
get_set (x ∷ xs) (suc i) (suc k) y z e = elim (get_set xs i k y z e) [
  | inl same ↦ inl (let one = same.0 in omega (arith, one), same.1)
  | inr old ↦ inr old
]

-- nothing stands at places that are empty
pub none_at : {T : Type 0} (n k : ℕ) (x : T) → slice_get (replicate n None) k ≡ Some (Some x) → ⊥
none_at zero k x e = none_not (Some x) e
none_at (suc n) zero x e = let same : None ≡ Some x = cc in none_not x same
none_at (suc n) (suc k) x e = none_at n k x e

-- an item that is found is there
pub item_at : {T : Type 0} (xs : List (Option T)) (k : ℕ) (x : T) → get_or xs k None ≡ Some x → slice_get xs k ≡ Some (Some x)
item_at [] k x e = absurd (none_not x e)
item_at (y ∷ xs) zero x e = ap Some e
item_at (y ∷ xs) (suc k) x e = item_at xs k x e

-- one item more at the end
pub snoc_before : {T : Type 0} (xs : List T) (x d : T) (k : ℕ) → k < length xs → get_or (xs ++ x ∷ []) k d ≡ get_or xs k d
snoc_before [] x d k low = absurd (omega (arith, low))
snoc_before (y ∷ xs) x d zero low = refl
snoc_before (y ∷ xs) x d (suc k) low = snoc_before xs x d k (omega (arith, low))

pub snoc_last : {T : Type 0} (xs : List T) (x d : T) → get_or (xs ++ x ∷ []) (length xs) d ≡ x
snoc_last [] x d = refl
snoc_last (y ∷ xs) x d = snoc_last xs x d

-- all of some and one more are the one more, and the others
pub all_last : {T : Type 0} (P : T → Type 0) (xs rest : List T) (x : T) → xs ≡ rest ++ x ∷ [] → All P xs → P x
all_last {T} P xs rest x is all =
    let whole : All P (rest ++ x ∷ []) = subst (λ (ys : List T). All P ys) is all in
    subst P (snoc_last rest x x) (whole (length rest) x (let e = length-append rest (x ∷ []) in omega (arith, e)))

pub all_front : {T : Type 0} (P : T → Type 0) (xs rest : List T) (x : T) → xs ≡ rest ++ x ∷ [] → All P xs → All P rest
all_front {T} P xs rest x is all k d low =
    let whole : All P (rest ++ x ∷ []) = subst (λ (ys : List T). All P ys) is all in
    subst P (snoc_before rest x d k low) (whole k d (let e = length-append rest (x ∷ []) in omega (arith, e, low)))

pub all_more : {T : Type 0} (P : T → Type 0) (xs ys : List T) (x : T) → ys ≡ xs ++ x ∷ [] → All P xs → P x → All P ys
all_more {T} P xs ys x is all one = subst (λ (zs : List T). All P zs) (sym is) (λ k d low. go k d low (cases_eq k (length xs)))
  where
    go : (k : ℕ) (d : T) → k < length (xs ++ x ∷ []) → (k ≡ length xs) ⊎ (k ≡ length xs → ⊥) → P (get_or (xs ++ x ∷ []) k d)
    go k d low (inl last) = subst P (sym (ap (λ (n : ℕ). get_or (xs ++ x ∷ []) n d) last ∙ snoc_last xs x d)) one
    go k d low (inr other) =
        let here : k < length xs = let e = length-append xs (x ∷ []) in omega (arith, e, low, other) in
        subst P (sym (snoc_before xs x d k here)) (all k d here)

-- a call that changed a list, or left it as it was
pub put_either : {T E A : Type 0} (P : A → Type 0) (r : Result T E) (new set old : A) → OnOk r (new ≡ set) → OnErr r (new ≡ old) → P set → P old → P new
put_either P (Ok x) new set old ok err there before = subst P (sym ok) there
put_either P (Err e) new set old ok err there before = subst P (sym err) before

-- one item more is that one, and leaves the others
pub snoc_length : {T : Type 0} (xs ys : List T) (x : T) (n : ℕ) → ys ≡ xs ++ x ∷ [] → length xs ≡ n → length ys ≡ n + 1
snoc_length {T} xs ys x n is count = let e = ap (λ (zs : List T). length zs) is ∙ length-append xs (x ∷ []) in omega (arith, e, count)

pub at_last : {T : Type 0} (xs ys : List T) (x d : T) (n k : ℕ) → ys ≡ xs ++ x ∷ [] → length xs ≡ n → k ≡ n → get_or ys k d ≡ x
at_last {T} xs ys x d n k is count here = ap (λ (zs : List T). get_or zs k d) is ∙ ap (λ (m : ℕ). get_or (xs ++ x ∷ []) m d) (here ∙ sym count) ∙ snoc_last xs x d

pub at_before : {T : Type 0} (xs ys : List T) (x d : T) (n k : ℕ) → ys ≡ xs ++ x ∷ [] → length xs ≡ n → k < n → get_or ys k d ≡ get_or xs k d
at_before {T} xs ys x d n k is count low = ap (λ (zs : List T). get_or zs k d) is ∙ snoc_before xs x d k (omega (arith, count, low))

-- the last of the first items of a list
pub front_parts : {T : Type 0} (n : ℕ) (xs : List T) → xs ≡ take n xs ++ drop n xs
front_parts zero xs = refl
front_parts (suc n) [] = refl
front_parts {T} (suc n) (x ∷ xs) = ap (λ (ys : List T). x ∷ ys) (front_parts n xs)

get_middle : {T : Type 0} (front : List T) (x d : T) (rest : List T) → get_or (front ++ x ∷ rest) (length front) d ≡ x
get_middle [] x d rest = refl
get_middle (y ∷ front) x d rest = get_middle front x d rest

module _ {T : Type 0} (olds xs rest : List T) (x : T) (n : ℕ) (front : xs ≡ take n olds) (is : xs ≡ rest ++ x ∷ []) where
  all_of : olds ≡ rest ++ (x ∷ drop n olds)
  all_of = front_parts n olds ∙ ap (λ (ys : List T). ys ++ drop n olds) (sym front ∙ is) ∙ append_assoc rest (x ∷ []) (drop n olds)

  pub popped_at : (d : T) → get_or olds (length rest) d ≡ x
  popped_at d = ap (λ (ys : List T). get_or ys (length rest) d) all_of ∙ get_middle rest x d (drop n olds)

  pub popped_low : length rest < length olds
  popped_low = let e = ap (λ (ys : List T). length ys) all_of ∙ length-append rest (x ∷ drop n olds) in omega (arith, e)

  pub popped_front : rest ≡ take (length rest) olds
  popped_front = sym (take-append_seam rest (x ∷ drop n olds)) ∙ ap (λ (ys : List T). take (length rest) ys) (sym all_of)

-- of what is found of an item, where the items are
pub map_at : {A B : Type 0} (f : A → B) (xs : List A) (k : ℕ) (d : A) (e : B) → k < length xs → get_or (map f xs) k e ≡ f (get_or xs k d)
map_at f [] k d e low = absurd (omega (arith, low))
map_at f (x ∷ xs) zero d e low = refl
map_at f (x ∷ xs) (suc k) d e low = map_at f xs k d e (omega (arith, low))

pub map_length : {A B : Type 0} (f : A → B) (xs : List A) → length (map f xs) ≡ length xs
map_length f [] = refl
map_length f (x ∷ xs) = let e = map_length f xs in omega (arith, e)

pub ok_more : {T E A : Type 0} (P : A → Type 0) (r : Result T E) (xs ys : List A) (x : A) → OnOk r (ys ≡ xs ++ x ∷ []) → All P xs → P x → OnOk r (All P ys)
ok_more P (Ok y) xs ys x is all one = all_more P xs ys x is all one
ok_more P (Err e) xs ys x is all one = tt

pub map_snoc : {A B : Type 0} (f : A → B) (xs : List A) (x : A) → map f (xs ++ x ∷ []) ≡ map f xs ++ f x ∷ []
map_snoc f [] x = refl
map_snoc {A} {B} f (y ∷ xs) x = ap (λ (zs : List B). f y ∷ zs) (map_snoc f xs x)

-- what is written back through a slice of a whole vector
pub written : {T : Type 0} (n : ℕ) (news rest : List T) → length news ≡ n → take n (news ++ rest) ≡ news
written {T} n news rest is = ap (λ (m : ℕ). take m (news ++ rest)) (sym is) ∙ take-append_seam news rest
