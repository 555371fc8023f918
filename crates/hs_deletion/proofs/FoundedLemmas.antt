-- Arrows that no way back follows for ever.
use Rattle.std.proofs.Common.{◌≡◌, ◌⊎◌, inl, inr}
use Rattle.hs_deletion.specs.Invariants.{IsFounded}
use Rattle.hs_deletion.specs.Invariants.IsFounded.{founded}

module _ {A : Type 0} {P Q : A → A → Type 0} where
  -- fewer arrows
  pub founded_fewer : ((x y : A) → Q x y → P x y) → (x : A) → IsFounded P x → IsFounded Q x
  founded_fewer less x (founded f) = founded (λ c q. founded_fewer less c (f c (less c x q)))

  module _ (R : A → Type 0) (a : A) (new : (x y : A) → Q x y → P x y ⊎ ((x ≡ a) × R y)) (closed : (x y : A) → R x → P x y → R y) (fresh : ¬ R a) where
    -- what leads to a place that isn't reached isn't reached, so no new arrow leads there
    founded_unreached : (x : A) → IsFounded P x → ¬ R x → IsFounded Q x
    founded_unreached x (founded f) n = founded (λ c q. elim (new c x q) [
      | inl p ↦ founded_unreached c (f c p) (λ r. n (closed c x r p))
      | inr e ↦ absurd (n e.1)
    ])

    -- arrows from a fresh place to reached ones close no circle
    pub founded_more : (x : A) → IsFounded P a → IsFounded P x → IsFounded Q x
    founded_more x at (founded f) = founded (λ c q. elim (new c x q) [
      | inl p ↦ founded_more c at (f c p)
      | inr e ↦ rw e.0 (founded_unreached a at fresh)
    ])

-- what has a place of its own kind before it each time is nowhere
pub founded_none : {A : Type 0} {P : A → A → Type 0} (U : A → Type 0) → ((x : A) → U x → (c : A) × U c × P c x) → (x : A) → IsFounded P x → ¬ U x
founded_none U back x (founded f) u = let b = back x u in founded_none U back b.0 (f b.0 b.2) b.1
