-- What is one shard's among those of all.
use Rattle.std.proofs.Common.{◌≡◌, ◌≢◌, ℕ, zero, suc, ◌+◌, ◌<◌, List, [], ◌∷◌, ◌++◌, length, refl, sym, ap, ◌∙◌, subst, arith}
use Rattle.std.proofs.lemmas.Grind.{common_steps}
use Rattle.std.specs.Prelude.{slice_index_or, slice_set}

module _ {X : Type 0} where
  pub at-place : (none : X) (front back : List X) (c : X) → slice_index_or (front ++ c ∷ back) (length front) none ≡ c
  at-place none [] back c = refl
  at-place none (x ∷ front) back c = at-place none front back c

  pub set-place : (front back : List X) (c d : X) → slice_set (front ++ c ∷ back) (length front) d ≡ front ++ d ∷ back
  set-place [] back c d = refl
  set-place (x ∷ front) back c d = ap (λ rest. x ∷ rest) (set-place front back c d)

  length-place : (front back : List X) (c : X) → length (front ++ c ∷ back) ≡ length front + (1 + length back)
  length-place [] back c = omega arith
  length-place (x ∷ front) back c = let rest = length-place front back c in omega (arith, rest)

  -- a shard's, with those before and behind it
  record Placed (cs : List X) (shard : ℕ) : Type 0 where
    front : List X
    back : List X
    c : X
    is : front ++ c ∷ back ≡ cs
    at : length front ≡ shard

  placed : (cs : List X) (shard : ℕ) → shard < length cs → Placed cs shard
  placed [] shard h = absurd (omega (arith, h))
  placed (c ∷ cs) zero h = record { front = []; back = cs; c = c; is = refl; at = refl }
  placed (c ∷ cs) (suc shard) h =
      let p = placed cs shard (grind (arith, common_steps, h)) in
      record { front = c ∷ p.front; back = p.back; c = p.c; is = ap (λ rest. c ∷ rest) p.is; at = ap (λ n. suc n) p.at }

  -- what holds of a shard between others holds of each
  pub on-place : (P : List X → ℕ → Type 0) (n : ℕ) → ((front back : List X) (c : X) → length front + (1 + length back) ≡ n → P (front ++ c ∷ back) (length front))
      → (cs : List X) (shard : ℕ) → length cs ≡ n → shard < n → P cs shard
  on-place P n f cs shard all low =
      let p = placed cs shard (omega (arith, all, low)) in
      let count : length p.front + (1 + length p.back) ≡ n = sym (length-place p.front p.back p.c) ∙ ap (λ (es : List X). length es) p.is ∙ all in
      subst (λ k. P cs k) p.at (subst (λ (es : List X). P es (length p.front)) p.is (f p.front p.back p.c count))

  -- ---- the others

  pub same-at : (none : X) (cs : List X) (shard : ℕ) (d : X) → shard < length cs → slice_index_or (slice_set cs shard d) shard none ≡ d
  same-at none [] shard d h = absurd (omega (arith, h))
  same-at none (c ∷ cs) zero d h = refl
  same-at none (c ∷ cs) (suc shard) d h = same-at none cs shard d (grind (arith, common_steps, h))

  pub other-at : (none : X) (cs : List X) (shard k : ℕ) (d : X) → k ≢ shard → slice_index_or (slice_set cs shard d) k none ≡ slice_index_or cs k none
  other-at none [] shard k d differs = refl
  other-at none (c ∷ cs) zero zero d differs = absurd (differs refl)
  other-at none (c ∷ cs) zero (suc k) d differs = refl
  other-at none (c ∷ cs) (suc shard) zero d differs = refl
  other-at none (c ∷ cs) (suc shard) (suc k) d differs = other-at none cs shard k d (λ same. differs (ap (λ n. suc n) same))

  pub length-set : (cs : List X) (shard : ℕ) (d : X) → length (slice_set cs shard d) ≡ length cs
  length-set [] shard d = refl
  length-set (c ∷ cs) zero d = refl
  length-set (c ∷ cs) (suc shard) d = ap (λ n. suc n) (length-set cs shard d)

  -- lists with the same at each place are the same
  pub same-each : (none : X) (cs ds : List X) → length cs ≡ length ds → ((k : ℕ) → k < length cs → slice_index_or cs k none ≡ slice_index_or ds k none) → cs ≡ ds
  same-each none [] [] count f = refl
  same-each none [] (d ∷ ds) count f = absurd (omega (arith, count))
  same-each none (c ∷ cs) [] count f = absurd (omega (arith, count))
  same-each none (c ∷ cs) (d ∷ ds) count f =
      let first : c ≡ d = f 0 (grind (arith, common_steps)) in
      let rest : cs ≡ ds = same-each none cs ds (omega (arith, count)) (λ k l. f (suc k) (grind (arith, common_steps, l))) in
      λ i. first i ∷ rest i
