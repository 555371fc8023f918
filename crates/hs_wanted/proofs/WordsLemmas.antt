-- The first words of some, by what they say.
use Rattle.std.proofs.Common.{◌≡◌, ◌∙◌, ap, ℕ, ◌-◌, ◌≤◌, List, [], ◌∷◌, length, take, drop, map, get_or, refl, arith, take_all}

module _ {X : Type 0} (f : X → List ℕ) where
  four_behind : (w x y z : X) (xs : List X) → map f (take (length (w ∷ x ∷ y ∷ z ∷ xs) - 4) (drop 4 (w ∷ x ∷ y ∷ z ∷ xs))) ≡ map f xs
  four_behind w x y z xs = ap (map f) (ap (λ n. take n xs) (omega arith) ∙ take_all (length xs) xs (omega arith))

  pub four_words : (xs : List X) (a b c d : X) → 4 ≤ length xs → a ≡ get_or xs 0 a → b ≡ get_or xs 1 b → c ≡ get_or xs 2 c → d ≡ get_or xs 3 d → map f xs ≡ f a ∷ f b ∷ f c ∷ f d ∷ map f (take (length xs - 4) (drop 4 xs))
  four_words [] a b c d low p q r s = absurd (omega (arith, low))
  four_words (w ∷ []) a b c d low p q r s = absurd (omega (arith, low))
  four_words (w ∷ x ∷ []) a b c d low p q r s = absurd (omega (arith, low))
  four_words (w ∷ x ∷ y ∷ []) a b c d low p q r s = absurd (omega (arith, low))
  four_words (w ∷ x ∷ y ∷ z ∷ xs) a b c d low p q r s = rw (p, q, r, s, four_behind w x y z xs) refl
