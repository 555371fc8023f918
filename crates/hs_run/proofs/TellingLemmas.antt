-- What pieces that are put one after another make.
use Rattle.std.proofs.Common.{◌≡◌, ℕ, ◌+◌, ◌-◌, List, ◌++◌, length, take, drop, Option, Some, None, refl, sym, ap, ◌∙◌, append_assoc, take-append-drop, arith}
use Rattle.std.proofs.lemmas.List.{take_rest, drop-take, take-take}
use Rattle.hs_ports.specs.Sink.{followed}

-- a longer front is the shorter one and what comes next
pub take-add : (m n : ℕ) (xs : List ℕ) → take (m + n) xs ≡ take m xs ++ take n (drop m xs)
take-add m n xs =
    let short : take m (take (m + n) xs) ≡ take m xs = take-take m (m + n) xs (omega arith) in
    sym (take-append-drop m (take (m + n) xs)) ∙ ap (λ (front : List ℕ). front ++ drop m (take (m + n) xs)) short ∙ ap (λ (back : List ℕ). take m xs ++ back) (drop-take m n xs)

-- two pieces one after the other
pub followed_twice : (got : Option (List ℕ)) (a b : List ℕ) → followed (followed got a) b ≡ followed got (a ++ b)
followed_twice None a b = refl
followed_twice (Some got) a b = ap (λ (bytes : List ℕ). Some bytes) (append_assoc got a b)

-- the next piece makes the front longer
pub put_more : (before got got' : Option (List ℕ)) (bytes : List ℕ) (done count : ℕ) → got ≡ followed before (take done bytes)
    → got' ≡ followed got (take count (take (length bytes - done) (drop done bytes))) → got' ≡ followed before (take (done + count) bytes)
put_more before got got' bytes done count so_far more =
    let piece : take count (take (length bytes - done) (drop done bytes)) ≡ take count (drop done bytes) = ap (take count) (take_rest bytes done) in
    more ∙ ap (λ (p : List ℕ). followed got p) piece ∙ ap (λ (g : Option (List ℕ)). followed g (take count (drop done bytes))) so_far
    ∙ followed_twice before (take done bytes) (take count (drop done bytes)) ∙ ap (followed before) (sym (take-add done count bytes))
