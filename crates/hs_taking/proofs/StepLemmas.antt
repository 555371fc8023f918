-- An element of several.
use Rattle.std.proofs.Common.{◌≡◌, ℕ, zero, suc, ◌<◌, List, [], ◌∷◌, length, refl, arith}
use Rattle.std.specs.Prelude.{slice_index_or}

-- an element that is there, whatever stands for one that is not
pub at_any : {A : Type 0} (xs : List A) (i : ℕ) (d e : A) → i < length xs → slice_index_or xs i d ≡ slice_index_or xs i e
at_any [] i d e low = absurd (omega (arith, low))
at_any (x ∷ xs) zero d e low = refl
at_any (x ∷ xs) (suc i) d e low = at_any xs i d e (omega (arith, low))
