-- What a sweep removes.
use Rattle.std.proofs.Common.{◌≡◌, ℕ, inl, inr, List, [], ◌∷◌, Option, Some, None, Bool, true, false, not, refl, sym, subst, arith, Contains, IsSome, is_some, map, filter, nat_lt, ◌==◌, ◌&&◌}
use Rattle.std.proofs.lemmas.Bool.{and_parts, and_from}
use Rattle.std.proofs.Common.{tests}
use Rattle.std.proofs.lemmas.Map.Made.{IsDistinct-keys_filter}
use Rattle.std.specs.BTreeMap.{is_at}
use Rattle.std.specs.List.{IsDistinct}
use Rattle.std.specs.Map.{lookup, keys_of}
use Rattle.hs_limits.specs.declared.address.Address.{Address}
use Rattle.hs_model.specs.declared.store.StoredBlock.{StoredBlock}
use Rattle.hs_model.specs.Inner.{sweep}
use Rattle.hs_model.specs.Reach.{is_same, is_among, reached_from, anchors, is_swept, unreachable}
use Rattle.hs_model.specs.Store.{Store, address_cmp, block_at, shard_at}
use Rattle.hs_laws.specs.Unreached.{IsUnreached}
use Rattle.hs_model.proofs.Members.{Member, contains_from_member, member_from_contains, member-map, member_of_map, member-filter, member_of_filter, same-refl, same_from, at_is_same, among_from_member, member_from_among}
use Rattle.hs_model.proofs.ReachLemmas.{found_from_distinct, listed_is, is_listed}

-- ---- what is found, and what is a member

pub member_from_found : {V : Type 0} (es : List (Address × V)) (a : Address) (v : V) → lookup (is_at (address_cmp a)) es ≡ Some v → Member (a, v) es
member_from_found [] a v h = cc
member_from_found (e ∷ es) a v h = go (member_from_found es a v) (is_same a e.0) refl
  where
    go : (lookup (is_at (address_cmp a)) es ≡ Some v → Member (a, v) es) → (b : Bool) → is_same a e.0 ≡ b → Member (a, v) (e ∷ es)
    go ih true t =
        let found : Some e.1 ≡ Some v = rw (at_is_same a e.0, t) at h in
        let value : v ≡ e.1 = cc found in
        inl (λ i. (same_from a e.0 t i, value i))
    go ih false t = inr (ih (rw (at_is_same a e.0, t) at h))

pub some_from_member : {V : Type 0} (es : List (Address × V)) (e : Address × V) → Member e es → is_some (lookup (is_at (address_cmp e.0)) es) ≡ true
some_from_member [] e m = elim m [ ]
some_from_member (x ∷ es) e (inl h) = subst (λ z. is_some (lookup (is_at (address_cmp z.0)) (x ∷ es)) ≡ true) (sym h) (rw (at_is_same x.0 x.0, same-refl x.0))
some_from_member (x ∷ es) e (inr m) = go (some_from_member es e m) (is_same e.0 x.0) refl
  where
    go : is_some (lookup (is_at (address_cmp e.0)) es) ≡ true → (b : Bool) → is_same e.0 x.0 ≡ b → is_some (lookup (is_at (address_cmp e.0)) (x ∷ es)) ≡ true
    go ih true t = rw (at_is_same e.0 x.0, t)
    go ih false t = rw (at_is_same e.0 x.0, t) ih

pub member_from_some : {V : Type 0} (es : List (Address × V)) (a : Address) → is_some (lookup (is_at (address_cmp a)) es) ≡ true → (v : V) × Member (a, v) es
member_from_some {V = V} es a h = go (lookup (is_at (address_cmp a)) es) refl h
  where
    go : (o : Option V) → lookup (is_at (address_cmp a)) es ≡ o → is_some o ≡ true → (v : V) × Member (a, v) es
    go None e t = cc t
    go (Some v) e t = (v, member_from_found es a v e)

-- ---- the test of a sweep

pub unreached_from_swept : (s : Store) (run shard : ℕ) (a : Address) (stored : StoredBlock) → is_swept s run shard (a, stored) ≡ true → IsUnreached s run shard a stored
unreached_from_swept s run shard a stored t =
    let both = and_parts (shard_at s a == shard && nat_lt stored.born run) (not (is_among (reached_from s (anchors s run)) a)) t in
    let one = and_parts (shard_at s a == shard) (nat_lt stored.born run) both.0 in
    record { of_shard = grind (arith, tests, one.0); older = grind (arith, tests, one.1); unreached = λ r. cc (both.1, is_listed s (anchors s run) a r) }

pub swept_from_unreached : (s : Store) (run shard : ℕ) (a : Address) (stored : StoredBlock) → IsDistinct is_same (keys_of s.blocks) → IsUnreached s run shard a stored → is_swept s run shard (a, stored) ≡ true
swept_from_unreached s run shard a stored d u =
    and_from (shard_at s a == shard && nat_lt stored.born run) (not (is_among (reached_from s (anchors s run)) a)) (and_from (shard_at s a == shard) (nat_lt stored.born run) (grind (arith, tests, u.of_shard)) (grind (arith, tests, u.older))) (go (is_among (reached_from s (anchors s run)) a) refl)
  where
    go : (b : Bool) → is_among (reached_from s (anchors s run)) a ≡ b → not b ≡ true
    go true e = absurd (u.unreached (listed_is s (anchors s run) a d e))
    go false e = refl

-- ---- what is listed

pub listed_unreached : (s : Store) (run shard : ℕ) (a : Address) (stored : StoredBlock) → IsDistinct is_same (keys_of s.blocks) → block_at s a ≡ Some stored → is_among (unreachable s run shard) a ≡ true → IsUnreached s run shard a stored
listed_unreached s run shard a stored d h t =
    let m = member_of_map (λ (e : Address × StoredBlock). e.0) a (filter (is_swept s run shard) s.blocks) (member_from_among a (unreachable s run shard) t) in
    let n = member_of_filter (is_swept s run shard) m.0 s.blocks m.1 in
    let found : block_at s a ≡ Some m.0.1 = subst (λ z. block_at s z ≡ Some m.0.1) (sym m.2) (found_from_distinct s.blocks d m.0 n.0) in
    let value : m.0.1 ≡ stored = cc (found, h) in
    unreached_from_swept s run shard a stored (subst (λ z. is_swept s run shard (a, z) ≡ true) value (subst (λ z. is_swept s run shard (z, m.0.1) ≡ true) (sym m.2) n.1))

pub unreached_listed : (s : Store) (run shard : ℕ) (a : Address) (stored : StoredBlock) → IsDistinct is_same (keys_of s.blocks) → block_at s a ≡ Some stored → IsUnreached s run shard a stored → is_among (unreachable s run shard) a ≡ true
unreached_listed s run shard a stored d h u =
    among_from_member a (unreachable s run shard) (member-map (λ (e : Address × StoredBlock). e.0) (a, stored) (filter (is_swept s run shard) s.blocks) (member-filter (is_swept s run shard) (a, stored) s.blocks (member_from_found s.blocks a stored h) (swept_from_unreached s run shard a stored d u)))

-- ---- what stays

abbrev spared : Store → ℕ → ℕ → Address × StoredBlock → Bool
spared s run shard e = not (is_swept s run shard e)

pub stays_spared : (s : Store) (run shard : ℕ) (a : Address) (stored : StoredBlock) → IsDistinct is_same (keys_of s.blocks) → lookup (is_at (address_cmp a)) (filter (spared s run shard) s.blocks) ≡ Some stored → (block_at s a ≡ Some stored) × ¬ IsUnreached s run shard a stored
stays_spared s run shard a stored d h =
    let m = member_of_filter (spared s run shard) (a, stored) s.blocks (member_from_found (filter (spared s run shard) s.blocks) a stored h) in
    (found_from_distinct s.blocks d (a, stored) m.0, λ u. cc (m.1, swept_from_unreached s run shard a stored d u))

pub spared_stays : (s : Store) (run shard : ℕ) (a : Address) (stored : StoredBlock) → IsDistinct is_same (keys_of s.blocks) → block_at s a ≡ Some stored → ¬ IsUnreached s run shard a stored → lookup (is_at (address_cmp a)) (filter (spared s run shard) s.blocks) ≡ Some stored
spared_stays s run shard a stored d h u =
    found_from_distinct (filter (spared s run shard) s.blocks) (IsDistinct-keys_filter is_same (spared s run shard) s.blocks d) (a, stored) (member-filter (spared s run shard) (a, stored) s.blocks (member_from_found s.blocks a stored h) (go (is_swept s run shard (a, stored)) refl))
  where
    go : (b : Bool) → is_swept s run shard (a, stored) ≡ b → not b ≡ true
    go true e = absurd (u (unreached_from_swept s run shard a stored e))
    go false e = refl

-- ---- what was given

pub given_stays : (s : Store) (shard : ℕ) (a : Address) (epoch : ℕ) → Contains (sweep s shard).given (a, epoch) → Contains s.given (a, epoch) × IsSome (block_at (sweep s shard) a)
given_stays s shard a epoch h =
    let kept = (sweep s shard).blocks in
    let m = member_of_filter (λ (e : Address × ℕ). is_among (map (λ b. b.0) kept) e.0) (a, epoch) s.given (member_from_contains (a, epoch) (sweep s shard).given h) in
    let n = member_of_map (λ (b : Address × StoredBlock). b.0) a kept (member_from_among a (map (λ b. b.0) kept) m.1) in
    (contains_from_member (a, epoch) s.given m.0, subst (λ z. IsSome (block_at (sweep s shard) z)) (sym n.2) (some_from_member kept n.0 n.1))

pub stays_given : (s : Store) (shard : ℕ) (a : Address) (epoch : ℕ) → Contains s.given (a, epoch) → IsSome (block_at (sweep s shard) a) → Contains (sweep s shard).given (a, epoch)
stays_given s shard a epoch h t =
    let kept = (sweep s shard).blocks in
    let n = member_from_some kept a t in
    contains_from_member (a, epoch) (sweep s shard).given (member-filter (λ (e : Address × ℕ). is_among (map (λ b. b.0) kept) e.0) (a, epoch) s.given (member_from_contains (a, epoch) s.given h) (among_from_member a (map (λ b. b.0) kept) (member-map (λ (b : Address × StoredBlock). b.0) (a, n.0) kept n.1)))
