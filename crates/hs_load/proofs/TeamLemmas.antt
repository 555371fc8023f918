-- Sessions of writers, one after another.
use Rattle.std.proofs.Common.{◌≡◌, ◌∙◌, ap, sym, ℕ, zero, suc, ◌+◌, List, [], ◌∷◌, ◌++◌, map, refl, arith}
use Rattle.std.specs.List.{range_with_len}
use Rattle.hs_script.specs.Loads.{session_name}
use Rattle.hs_load.specs.Team.{sessions_of}

range_more : (from n : ℕ) → map session_name (range_with_len from n) ++ session_name (from + n) ∷ [] ≡ map session_name (range_with_len from (n + 1))
range_more from zero = let e : from + 0 ≡ from = omega arith in ap (λ (m : ℕ). session_name m ∷ []) e
range_more from (suc n) =
    let e : from + suc n ≡ (from + 1) + n = omega arith in
    let f : suc n + 1 ≡ suc (n + 1) = omega arith in
    ap (λ (m : ℕ). session_name from ∷ (map session_name (range_with_len (from + 1) n) ++ session_name m ∷ [])) e
    ∙ ap (λ (xs : List (List ℕ)). session_name from ∷ xs) (range_more (from + 1) n)
    ∙ ap (λ (m : ℕ). map session_name (range_with_len from m)) (sym f)

-- one session more
pub one_session_more : (n : ℕ) → sessions_of n ++ session_name n ∷ [] ≡ sessions_of (n + 1)
one_session_more n = let e : n ≡ 0 + n = omega arith in ap (λ (m : ℕ). sessions_of n ++ session_name m ∷ []) e ∙ range_more 0 n
