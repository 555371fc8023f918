-- A shard with a good peer is one of the store, where there is a status for each peer.
use Rattle.std.proofs.Common.{◌≡◌, ◌∙◌, sym, ap, subst, ◌⊎◌, inl, inr, ℕ, zero, suc, ◌+◌, ◌*◌, ◌<◌, ◌≤◌, ◌||◌, Bool, true, false, refl, arith, length}
use Rattle.std.proofs.lemmas.Bool.{cases_lt}
use Rattle.std.proofs.lemmas.List.{get_or_past}
use Rattle.std.proofs.Math.Nat.{div-mul-le_self, lt-div-mul-add, mul_comm, mul-le-mul_left}
use Rattle.std.specs.List.{list_any, range_with_len}
use Rattle.std.specs.Prelude.{List, [], ◌∷◌, slice_index_or, slice_set}
use Rattle.hs_limits.specs.declared.limits.PeerStatus.{PeerStatus}
use Rattle.hs_limits.specs.declared.limits.PeerStatus.TheVariants.{Down}
use Rattle.hs_limits.specs.declared.shape.Shape.{Shape}
use Rattle.hs_limits.specs.Shape.{peer_of}
use Rattle.hs_members.specs.Members.{Members, become, has_good, home_of, is_good_status, status}

-- a good peer is one of the store
pub peer_low : (m : Members) (k : ℕ) → is_good_status (status k m) ≡ true → k < length m.statuses
peer_low m k good = go (cases_lt k (length m.statuses))
  where
    go : (k < length m.statuses) ⊎ (length m.statuses ≤ k) → k < length m.statuses
    go (inl low) = low
    go (inr high) = absurd (cc (sym (ap is_good_status (get_or_past m.statuses k Down high)) ∙ good))

-- a peer of a shard is good
pub any_place : (p : ℕ → Bool) (from len : ℕ) → list_any p (range_with_len from len) ≡ true → (i : ℕ) × (i < len) × (p (from + i) ≡ true)
any_place p from zero any = absurd (cc any)
any_place p from (suc len) any = go (p from) refl any (any_place p (from + 1) len)
  where
    more : (i : ℕ) × (i < len) × (p (from + 1 + i) ≡ true) → (i : ℕ) × (i < suc len) × (p (from + i) ≡ true)
    more x =
        let low = x.1 in
        let next : from + 1 + x.0 ≡ from + suc x.0 = omega arith in
        (suc x.0, omega (arith, low), subst (λ k. p k ≡ true) next x.2)

    go : (b : Bool) → p from ≡ b → (b || list_any p (range_with_len (from + 1) len)) ≡ true → (list_any p (range_with_len (from + 1) len) ≡ true → (i : ℕ) × (i < len) × (p (from + 1 + i) ≡ true))
        → (i : ℕ) × (i < suc len) × (p (from + i) ≡ true)
    go true is a later =
        let here : from ≡ from + 0 = omega arith in
        (0, omega arith, subst (λ k. p k ≡ true) here is)
    go false is a later = more (later a)

below : (shard shards copies : ℕ) → shard * copies < shards * copies → shard < shards
below shard shards copies h = go (cases_lt shard shards)
  where
    clash : (m n : ℕ) → m < n → n ≤ m → ⊥
    clash m n a b = omega (arith, a, b)

    go : (shard < shards) ⊎ (shards ≤ shard) → shard < shards
    go (inl low) = low
    go (inr high) = absurd (clash (shard * copies) (shards * copies) h (subst (λ k. k ≤ shard * copies) (mul_comm copies shards) (subst (λ k. copies * shards ≤ k) (mul_comm copies shard) (mul-le-mul_left copies high))))

seat_low : (base i n all : ℕ) → base + 0 + i < n → n ≡ all → base < all
seat_low base i n all h e = omega (arith, h, e)

pub good_shard : (shard : ℕ) (m : Members) → length m.statuses ≡ m.shape.shards * m.shape.copies → has_good shard m ≡ true → shard < m.shape.shards
good_shard shard m seats good =
    let at = any_place (λ peer. is_good_status (status peer m)) (peer_of m.shape shard 0) m.shape.copies good in
    below shard m.shape.shards m.shape.copies (seat_low (shard * m.shape.copies) at.0 (length m.statuses) (m.shape.shards * m.shape.copies) (peer_low m (peer_of m.shape shard 0 + at.0) at.2) seats)

-- ---- a shard with a good peer, and another that is not, has more than one copy

one_is : (base copies i peer : ℕ) → base ≤ peer → peer < base + copies → i < copies → copies ≤ 1 → base + 0 + i ≡ peer
one_is base copies i peer a b c d = omega (arith, a, b, c, d)

-- of one copy there is one place in a shard
one_place : (peer i : ℕ) (shape : Shape) → i < shape.copies → shape.copies ≤ 1 → peer_of shape (home_of shape peer) 0 + i ≡ peer
one_place peer i shape low few =
    let some : 0 < shape.copies = omega (arith, low) in
    let from = div-mul-le_self peer shape.copies in
    let to : peer < home_of shape peer * shape.copies + shape.copies = lt-div-mul-add some in
    one_is (home_of shape peer * shape.copies) shape.copies i peer from to low few

pub two_copies : (m : Members) (peer : ℕ) → has_good (home_of m.shape peer) m ≡ true → is_good_status (status peer m) ≡ false → 1 < m.shape.copies
two_copies m peer good bad = go (cases_lt 1 m.shape.copies)
  where
    at : (i : ℕ) × (i < m.shape.copies) × (is_good_status (status (peer_of m.shape (home_of m.shape peer) 0 + i) m) ≡ true)
    at = any_place (λ p. is_good_status (status p m)) (peer_of m.shape (home_of m.shape peer) 0) m.shape.copies good

    go : (1 < m.shape.copies) ⊎ (m.shape.copies ≤ 1) → 1 < m.shape.copies
    go (inl more) = more
    go (inr few) = absurd (cc (sym bad ∙ subst (λ p. is_good_status (status p m) ≡ true) (one_place peer at.0 m.shape at.1 few) at.2))

down_bad : (xs : List PeerStatus) (k : ℕ) → is_good_status (slice_index_or (slice_set xs k Down) k Down) ≡ false
down_bad [] k = refl
down_bad (x ∷ xs) zero = refl
down_bad (x ∷ xs) (suc k) = down_bad xs k

-- so where one has gone down
pub fallen_two : (m : Members) (peer : ℕ) → has_good (home_of m.shape peer) (become peer Down m) ≡ true → 1 < m.shape.copies
fallen_two m peer good = two_copies (become peer Down m) peer good (down_bad m.statuses peer)
