-- Parts written into zeros, and the last bytes of two parts.
use Rattle.std.proofs.Common.{◌≡◌, ℕ, zero, suc, ◌+◌, ◌-◌, ◌<◌, ◌≤◌, ◌⊎◌, inl, inr, List, [], ◌∷◌, ◌++◌, length, replicate, take, drop, refl, sym, ap, ◌∙◌, append_assoc, arith}
use Rattle.std.proofs.lemmas.Bool.{cases_lt}
use Rattle.std.proofs.lemmas.List.{take-replicate, length-append, length-drop, length-take-le, append-nil, drop_all}
use Rattle.std.proofs.lemmas.Slice.{take-put_mid}
use borrow.Rule.Slice.PartMut.{put_mid, same_len_mid}

-- ---- parts written into zeros

-- what is written at the end stands behind what was in front
written_last : (n k : ℕ) (all xs : List ℕ) → length all ≤ n + k → put_mid n k all xs ≡ take n all ++ xs
written_last n k all xs fits =
    let few : length (drop n all) ≤ k = rw (length-drop n all) (omega arith) in
    rw (drop_all k (drop n all) few, append-nil) refl

-- a front that ends before the back: 32 bytes yet
pub half_is_whole :
    (front back : List ℕ) → length front + length back ≤ 32 →
    length (put_mid (32 - length back - length front) (32 - length back - (32 - length back - length front)) (replicate 32 0) front) ≡ 32
half_is_whole front back fits =
    let end : ℕ = 32 - length back in
    let from : ℕ = end - length front in
    let zeros : List ℕ = replicate 32 0 in
    let left : length zeros ≡ 32 = refl in
    let place : length (take (end - from) (drop from zeros)) ≡ end - from =
    length-take-le (end - from) (drop from zeros) (rw (length-drop from zeros, left) (omega arith)) in
    same_len_mid from (end - from) zeros front (omega (arith, place)) ∙ left

-- a front that ends before the back, and then the back
pub written_behind_zeros :
    (front back : List ℕ) → length front + length back ≤ 32 →
    put_mid (32 - length back) (32 - (32 - length back))
    (put_mid (32 - length back - length front) (32 - length back - (32 - length back - length front)) (replicate 32 0) front)
    back ≡
    replicate (32 - (length front + length back)) 0 ++ front ++ back
written_behind_zeros front back fits =
    let end : ℕ = 32 - length back in
    let from : ℕ = end - length front in
    let zeros : List ℕ = replicate 32 0 in
    let half : List ℕ = put_mid from (end - from) zeros front in
    let left : length zeros ≡ 32 = refl in
    let whole : length half ≡ 32 = half_is_whole front back fits in
    let first : take end half ≡ replicate from 0 ++ front =
    take-put_mid from (end - from) zeros front end (omega arith) (omega (arith, left))
    ∙ ap (λ (xs : List ℕ). xs ++ front) (take-replicate from 32 0 (omega arith)) in
    let all : put_mid end (32 - end) half back ≡ take end half ++ back = written_last end (32 - end) half back (omega (arith, whole)) in
    let count : from ≡ 32 - (length front + length back) = omega arith in
    all ∙ ap (λ (xs : List ℕ). xs ++ back) first ∙ ap (λ (n : ℕ). replicate n 0 ++ front ++ back) count

-- ---- the last bytes of two parts

-- what is left of two lists behind the first n places
drop_of_parts : (n : ℕ) (xs ys : List ℕ) → drop n (xs ++ ys) ≡ drop n xs ++ drop (n - length xs) ys
drop_of_parts zero xs ys =
    let none : 0 - length xs ≡ 0 = omega arith in
    rw none refl
drop_of_parts (suc n) [] ys =
    let all : suc n - 0 ≡ suc n = omega arith in
    rw all refl
drop_of_parts (suc n) (x ∷ xs) ys =
    let less : suc n - suc (length xs) ≡ n - length xs = omega arith in
    rw less (drop_of_parts n xs ys)

-- from the same place on, or from behind the end
dropped_alike : (n m : ℕ) (xs : List ℕ) → (n ≡ m) ⊎ ((length xs ≤ n) × (length xs ≤ m)) → drop n xs ≡ drop m xs
dropped_alike n m xs (inl same) = ap (λ (k : ℕ). drop k xs) same
dropped_alike n m xs (inr behind) = drop_all n xs behind.0 ∙ sym (drop_all m xs behind.1)

-- the last bytes of the back, and as many of the front as are wanted yet, are the last of both
pub tail_of_parts :
    (head body front back : List ℕ) →
    back ≡ drop (length body - 32) body → front ≡ drop (length head - (32 - length back)) head →
    replicate (32 - (length front + length back)) 0 ++ front ++ back ≡
    replicate (32 - length (head ++ body)) 0 ++ drop (length (head ++ body) - 32) (head ++ body)
tail_of_parts head body front back back_is front_is =
    let n : ℕ = length (head ++ body) - 32 in
    let both : length (head ++ body) ≡ length head + length body = length-append head body in
    let rest : length front ≡ length head - (length head - (32 - length back)) = ap (λ (xs : List ℕ). length xs) front_is ∙ length-drop (length head - (32 - length back)) head in
    let zeros : 32 - (length front + length back) ≡ 32 - length (head ++ body) = omega (arith, both, few, rest) in
    let from : n - length head ≡ length body - 32 = omega (arith, both) in
    let first : front ≡ drop n head = front_is ∙ dropped_alike (length head - (32 - length back)) n head (by_length (cases_lt 32 (length body))) in
    let last : back ≡ drop (n - length head) body = back_is ∙ ap (λ (k : ℕ). drop k body) (sym from) in
    let joined : front ++ back ≡ drop n (head ++ body) =
    ap (λ (xs : List ℕ). xs ++ back) first ∙ ap (λ (xs : List ℕ). drop n head ++ xs) last ∙ sym (drop_of_parts n head body) in
    append_assoc (replicate (32 - (length front + length back)) 0) front back
    ∙ ap (λ (k : ℕ). replicate k 0 ++ (front ++ back)) zeros
    ∙ ap (λ (xs : List ℕ). replicate (32 - length (head ++ body)) 0 ++ xs) joined
  where
    few : length back ≡ length body - (length body - 32)
    few = ap (λ (xs : List ℕ). length xs) back_is ∙ length-drop (length body - 32) body

    by_length : (32 < length body) ⊎ (length body ≤ 32) → (length head - (32 - length back) ≡ length (head ++ body) - 32) ⊎ ((length head ≤ length head - (32 - length back)) × (length head ≤ length (head ++ body) - 32))
    by_length (inl long) =
        let both = length-append head body in
        inr (omega (arith, few, long), omega (arith, both, long))
    by_length (inr short) =
        let both = length-append head body in
        inl (omega (arith, both, few, short))
