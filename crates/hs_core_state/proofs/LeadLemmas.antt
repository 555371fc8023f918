-- Leads and lengths that stand in an array.
use Rattle.std.proofs.Common.{◌≡◌, ℕ, ◌≤◌, ◌+◌, ◌*◌, suc, List, [], ◌∷◌, Option, length, map, take, refl, arith, ◌<◌, ◌⊎◌, inl, inr}
use Rattle.std.proofs.Math.Nat.{mul-le-mul_right, suc-mul}
use Rattle.std.specs.List.{range_with_len}
use Rattle.hs_limits.specs.declared.shape.Shape.{Shape}
use Rattle.hs_limits.specs.Shape.{peer_of}
use Rattle.hs_members.specs.Members.{IsPeer, IsShard}
use Rattle.std.specs.Prelude.{slice_index_or}
use Rattle.hs_replica.specs.declared.replica.Replica.{Replica}
use Rattle.hs_replica.specs.Group.{Group, IsHome, no_copy}

-- the lengths of at most four lists
pub four_lengths : (copies : List Replica) (n : ℕ) → length copies ≡ n → n ≤ 4 →
    take n (length (slice_index_or copies 0 no_copy).stamps ∷ length (slice_index_or copies 1 no_copy).stamps
    ∷ length (slice_index_or copies 2 no_copy).stamps ∷ length (slice_index_or copies 3 no_copy).stamps ∷ [])
    ≡ map (λ copy. length copy.stamps) copies
four_lengths [] n e h = rw (← e) refl
four_lengths (a ∷ []) n e h = rw (← e) refl
four_lengths (a ∷ b ∷ []) n e h = rw (← e) refl
four_lengths (a ∷ b ∷ c ∷ []) n e h = rw (← e) refl
four_lengths (a ∷ b ∷ c ∷ d ∷ []) n e h = rw (← e) refl
four_lengths (a ∷ b ∷ c ∷ d ∷ x ∷ rest) n e h = absurd (omega arith)

-- what up to eight shards have, where they are as many as a store may have
pub eight_leads : (f : ℕ → Option ℕ) (a b c d e g h i : Option ℕ) (n : ℕ)
    → (n ≡ 1) ⊎ (n ≡ 2) ⊎ (n ≡ 4) ⊎ (n ≡ 8)
    → (0 < n → a ≡ f 0) → (1 < n → b ≡ f 1) → (2 < n → c ≡ f 2) → (3 < n → d ≡ f 3)
    → (4 < n → e ≡ f 4) → (5 < n → g ≡ f 5) → (6 < n → h ≡ f 6) → (7 < n → i ≡ f 7)
    → take n (a ∷ b ∷ c ∷ d ∷ e ∷ g ∷ h ∷ i ∷ []) ≡ map f (range_with_len 0 n)
eight_leads f a b c d e g h i n (inl s) p q r t u v w x =
    let pa : a ≡ f 0 = p (omega (arith, s)) in rw (s, pa) refl
eight_leads f a b c d e g h i n (inr (inl s)) p q r t u v w x =
    let pa : a ≡ f 0 = p (omega (arith, s)) in let pb : b ≡ f 1 = q (omega (arith, s)) in rw (s, pa, pb) refl
eight_leads f a b c d e g h i n (inr (inr (inl s))) p q r t u v w x =
    let pa : a ≡ f 0 = p (omega (arith, s)) in let pb : b ≡ f 1 = q (omega (arith, s)) in
    let pc : c ≡ f 2 = r (omega (arith, s)) in let pd : d ≡ f 3 = t (omega (arith, s)) in rw (s, pa, pb, pc, pd) refl
eight_leads f a b c d e g h i n (inr (inr (inr s))) p q r t u v w x =
    let pa : a ≡ f 0 = p (omega (arith, s)) in let pb : b ≡ f 1 = q (omega (arith, s)) in
    let pc : c ≡ f 2 = r (omega (arith, s)) in let pd : d ≡ f 3 = t (omega (arith, s)) in
    let pe : e ≡ f 4 = u (omega (arith, s)) in let pg : g ≡ f 5 = v (omega (arith, s)) in
    let ph : h ≡ f 6 = w (omega (arith, s)) in let pi : i ≡ f 7 = x (omega (arith, s)) in rw (s, pa, pb, pc, pd, pe, pg, ph, pi) refl

-- a copy of a shard is a peer of the store
pub peer_within : (shape : Shape) (shard copy peer : ℕ) → peer ≡ peer_of shape shard copy → IsShard shape shard → copy < shape.copies → IsPeer shape peer
peer_within shape shard copy peer e s c =
    let m : suc shard * shape.copies ≤ shape.shards * shape.copies = mul-le-mul_right shape.copies (omega (arith, s)) in
    let d : suc shard * shape.copies ≡ shard * shape.copies + shape.copies = suc-mul shard shape.copies in
    omega (arith, e, m, d, c)

-- and one of the shard's group
pub lead_home : (shape : Shape) (shard copy peer : ℕ) (g : Group) → peer ≡ peer_of shape shard copy → g.shape ≡ shape → g.shard ≡ shard → copy < shape.copies → IsHome g peer
lead_home shape shard copy peer g e q r c = rw (e, q, r) (omega arith, omega (arith, c))
