-- Numbers of shards.
use Rattle.std.proofs.Common.{◌≡◌, ◌⊎◌, ◌==◌, inl, inr, ℕ, Bool, true, false, [], ◌∷◌, refl}
use Rattle.std.specs.List.{list_any}
use Rattle.std.specs.Prelude.{◌||◌}
use Rattle.std.proofs.lemmas.Bool.{eqb-true, false≢true}
use Rattle.hs_wanted.specs.Asked.{IsShards}

-- a number among those of shards is one of them
pub shards_among : (n : ℕ) → list_any (λ k. n == k) (1 ∷ 2 ∷ 4 ∷ 8 ∷ []) ≡ true → IsShards n
shards_among n h = one (n == 1) refl h
  where
    eight : (b : Bool) → (n == 8) ≡ b → (b || false) ≡ true → n ≡ 8
    eight true is k = eqb-true n 8 is
    eight false is k = absurd (false≢true k)

    four : (b : Bool) → (n == 4) ≡ b → (b || (n == 8 || false)) ≡ true → (n ≡ 4) ⊎ (n ≡ 8)
    four true is k = inl (eqb-true n 4 is)
    four false is k = inr (eight (n == 8) refl k)

    two : (b : Bool) → (n == 2) ≡ b → (b || (n == 4 || (n == 8 || false))) ≡ true → (n ≡ 2) ⊎ (n ≡ 4) ⊎ (n ≡ 8)
    two true is k = inl (eqb-true n 2 is)
    two false is k = inr (four (n == 4) refl k)

    one : (b : Bool) → (n == 1) ≡ b → (b || (n == 2 || (n == 4 || (n == 8 || false)))) ≡ true → IsShards n
    one true is k = inl (eqb-true n 1 is)
    one false is k = inr (two (n == 2) refl k)
