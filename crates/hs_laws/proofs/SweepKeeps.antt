-- A shard that sweeps its epoch keeps a store valid.
use Rattle.std.proofs.Common.{◌≡◌, ◌≢◌, ℕ, ◌+◌, ◌<◌, ◌≤◌, ◌⊎◌, inl, inr, List, [], ◌∷◌, zero, suc, length, Bool, true, false, not, cond, refl, sym, ap, ◌∙◌, subst, arith, slice_index, nat_le, nat_lt, ◌==◌, ◌&&◌, map, filter, is_some, length-set, tests}
use Rattle.std.proofs.lemmas.Bool.{and_parts}
use Rattle.std.proofs.lemmas.Grind.{common_steps}
use Rattle.std.specs.BTreeMap.{is_at}
use Rattle.std.specs.Map.{lookup}
use Rattle.hs_limits.specs.declared.address.Address.{Address}
use Rattle.hs_model.specs.declared.store.StoredBlock.{StoredBlock}
use Rattle.hs_model.specs.Inner.{none_below, may_sweep, sweep}
use Rattle.hs_model.specs.Reach.{anchors, counts_in, is_swept, is_same, is_among, reached_from, pointers_of}
use Rattle.hs_model.specs.Store.{Store, address_cmp, shard_at}
use Rattle.hs_laws.specs.Valid.{least_epoch, rests_on, stands_in}
use Rattle.hs_laws.proofs.EpochLemmas.{least_epoch-at, least_from_none_below}
use Rattle.hs_laws.proofs.EnterLemmas.{set-at}
use Rattle.hs_model.proofs.Members.{Member, member-map, member_of_map, member-filter, member_of_filter, same_from, at_is_same, among_from_member, member_from_among}
use Rattle.hs_laws.proofs.PromiseLemmas.{anchored_from_held}
use Rattle.hs_model.proofs.ReachLemmas.{Reached-each, start, onward, Reaches, listed_from_reached}
use Rattle.hs_laws.proofs.SweepLemmas.{some_from_member, member_from_some}
use Rattle.hs_laws.proofs.ValidLemmas.{starts-root, starts-given, starts-each, Valid}

-- what is known where the shard may sweep
pub record MaySweep (s : Store) (shard : ℕ) : Type 0 where
  pub behind : slice_index s.swept shard < slice_index s.epochs shard
  pub least : slice_index s.epochs shard ≤ least_epoch s

pub may_sweep-gives : (s : Store) (shard : ℕ) → 0 < length s.epochs → may_sweep s shard ≡ true → MaySweep s shard
may_sweep-gives s shard h t =
    let both = and_parts (nat_lt (slice_index s.swept shard) (slice_index s.epochs shard)) (none_below s (slice_index s.epochs shard)) t in
    record { behind = grind (arith, tests, both.0); least = least_from_none_below s (slice_index s.epochs shard) h both.1 }

past-end : (xs : List ℕ) (i : ℕ) → length xs ≤ i → slice_index xs i ≡ 0
past-end [] i h = refl
past-end (x ∷ xs) zero h = absurd (omega (arith, h))
past-end (x ∷ xs) (suc i) h = past-end xs i (grind (arith, common_steps, h))

-- ---- what a filter leaves is found as before where it leaves all of the address

pub lookup-filter : (test : Address × StoredBlock → Bool) (es : List (Address × StoredBlock)) (a : Address) → ((stored : StoredBlock) → test (a, stored) ≡ true) → lookup (is_at (address_cmp a)) (filter test es) ≡ lookup (is_at (address_cmp a)) es
lookup-filter test [] a f = refl
lookup-filter test (e ∷ es) a f = go (lookup-filter test es a f) (is_same a e.0) refl (test e) refl
  where
    go : lookup (is_at (address_cmp a)) (filter test es) ≡ lookup (is_at (address_cmp a)) es → (b : Bool) → is_same a e.0 ≡ b → (c : Bool) → test e ≡ c → lookup (is_at (address_cmp a)) (cond (test e) (e ∷ filter test es) (filter test es)) ≡ lookup (is_at (address_cmp a)) (e ∷ es)
    go ih true u true t = rw (t, at_is_same a e.0, u)
    go ih true u false t =
        let kept : test e ≡ true = subst (λ z. test (z, e.1) ≡ true) (same_from a e.0 u) (f e.1) in
        cc (kept, t)
    go ih false u true t = rw (t, at_is_same a e.0, u) ih
    go ih false u false t = rw (t, at_is_same a e.0, u) ih

-- ---- one sweep of a valid store

abbrev spared : Store → ℕ → Address × StoredBlock → Bool
spared s shard e = not (is_swept s (slice_index s.epochs shard) shard e)

not_and-false : (a b : Bool) → b ≡ true → not (a && not b) ≡ true
not_and-false true b e = rw e
not_and-false false b e = refl

module _ (s : Store) (v : Valid s) (shard : ℕ) (m : MaySweep s shard) where
  in_range : shard < length s.epochs
  in_range = go (nat_lt shard (length s.epochs)) refl
    where
      go : (b : Bool) → nat_lt shard (length s.epochs) ≡ b → shard < length s.epochs
      go true e = grind (arith, tests, e)
      go false e =
          let past : length s.epochs ≤ shard = grind (arith, tests, e) in
          absurd (omega (arith, m.behind, past-end s.epochs shard past))

  is_least : slice_index s.epochs shard ≡ least_epoch s
  is_least = omega (arith, m.least, least_epoch-at s shard in_range)

  abbrev IsAnchored : Address → Type 0
  IsAnchored a = Reaches s.blocks (anchors s (least_epoch s)) a

  is_spared : (a : Address) → IsAnchored a → (stored : StoredBlock) → spared s shard (a, stored) ≡ true
  is_spared a r stored =
      not_and-false (shard_at s a == shard && nat_lt stored.born (slice_index s.epochs shard)) (is_among (reached_from s (anchors s (slice_index s.epochs shard))) a) (rw is_least (among_from_member a (reached_from s (anchors s (least_epoch s))) (listed_from_reached s (anchors s (least_epoch s)) a r)))

  is_kept : (a : Address) → IsAnchored a → lookup (is_at (address_cmp a)) (sweep s shard).blocks ≡ lookup (is_at (address_cmp a)) s.blocks
  is_kept a r = lookup-filter (spared s shard) s.blocks a (is_spared a r)

  abbrev kept_gift : Address × ℕ → Bool
  kept_gift e = is_among (map (λ b. b.0) (sweep s shard).blocks) e.0

  old_gift : (e : Address × ℕ) → Member e (sweep s shard).given → Member e s.given
  old_gift e n = (member_of_filter kept_gift e s.given n).0

  old_block : (e : Address × StoredBlock) → Member e (sweep s shard).blocks → Member e s.blocks
  old_block e n = (member_of_filter (spared s shard) e s.blocks n).0

  among_kept : (a : Address) (stored : StoredBlock) → Member (a, stored) (sweep s shard).blocks → is_among (map (λ b. b.0) (sweep s shard).blocks) a ≡ true
  among_kept a stored n = among_from_member a (map (λ (b : Address × StoredBlock). b.0) (sweep s shard).blocks) (member-map (λ (b : Address × StoredBlock). b.0) (a, stored) (sweep s shard).blocks n)

  sweep-anchors : (a : Address) → Member a (anchors (sweep s shard) (least_epoch s)) → Member a (anchors s (least_epoch s))
  sweep-anchors a n =
      starts-each (λ a. Member a (anchors s (least_epoch s))) (counts_in (least_epoch s)) (λ e. nat_le (least_epoch s) (e.1 + 1)) s.roots (sweep s shard).given (λ root k t. starts-root (counts_in (least_epoch s)) (λ e. nat_le (least_epoch s) (e.1 + 1)) s.roots s.given root k t) (λ e k t. starts-given (counts_in (least_epoch s)) (λ e. nat_le (least_epoch s) (e.1 + 1)) s.roots s.given e (old_gift e k) t) a n

  was_anchored : (a : Address) → Reaches (sweep s shard).blocks (anchors (sweep s shard) (least_epoch s)) a → IsAnchored a
  was_anchored a r = Reached-each IsAnchored (λ a n. start (sweep-anchors a n)) (λ a b q i p. onward i (subst (λ f. Member b (pointers_of f)) (is_kept a i) p)) a r

  -- what rests on something that may be used rests on it still
  sweep-rests : (epoch : ℕ) → least_epoch s ≤ epoch + 1 → (a : Address) → Member a (rests_on s epoch) → Member a (rests_on (sweep s shard) epoch)
  sweep-rests epoch l a n =
      starts-each (λ a. Member a (rests_on (sweep s shard) epoch)) (λ root. nat_le epoch (stands_in s root)) (λ e. nat_le epoch e.1) s.roots s.given (λ root k t. starts-root (λ root. nat_le epoch (stands_in s root)) (λ e. nat_le epoch e.1) s.roots (sweep s shard).given root k t) (λ e k t. starts-given (λ root. nat_le epoch (stands_in s root)) (λ e. nat_le epoch e.1) s.roots (sweep s shard).given e (member-filter kept_gift e s.given k (kept e k t)) t) a n
    where
      kept : (e : Address × ℕ) → Member e s.given → nat_le epoch e.1 ≡ true → kept_gift e ≡ true
      kept e k t =
          let anchored : IsAnchored e.0 = anchored_from_held s epoch (least_epoch s) e.0 l (start (starts-given (λ root. nat_le epoch (stands_in s root)) (λ e. nat_le epoch e.1) s.roots s.given e k t)) in
          let present : is_some (lookup (is_at (address_cmp e.0)) (sweep s shard).blocks) ≡ true = rw (is_kept e.0 anchored) (v.given.given_present e k) in
          let found = member_from_some (sweep s shard).blocks e.0 present in
          among_kept e.0 found.0 found.1

  pub still_reached : (epoch : ℕ) → least_epoch s ≤ epoch + 1 → (a : Address) → Reaches s.blocks (rests_on s epoch) a → Reaches (sweep s shard).blocks (rests_on (sweep s shard) epoch) a
  still_reached epoch l a r =
      Reached-each (λ b. Reaches (sweep s shard).blocks (rests_on (sweep s shard) epoch) b) (λ a n. start (sweep-rests epoch l a n)) (λ a b q i p. onward i (subst (λ f. Member b (pointers_of f)) (sym (is_kept a (anchored_from_held s epoch (least_epoch s) a l q))) p)) a r

  sweep-swept : (i : ℕ) → i < length s.epochs → (slice_index (sweep s shard).swept i ≤ slice_index s.epochs i) × (slice_index s.epochs i ≤ slice_index (sweep s shard).swept i + 1) × (slice_index (sweep s shard).swept i ≤ least_epoch s)
  sweep-swept i l = go (set-at s.swept shard (slice_index s.epochs shard) i)
    where
      go : ((i ≡ shard) × (shard < length s.swept) × (slice_index (sweep s shard).swept i ≡ slice_index s.epochs shard)) ⊎ ((slice_index (sweep s shard).swept i ≡ slice_index s.swept i) × (shard < length s.swept → i ≢ shard)) → (slice_index (sweep s shard).swept i ≤ slice_index s.epochs i) × (slice_index s.epochs i ≤ slice_index (sweep s shard).swept i + 1) × (slice_index (sweep s shard).swept i ≤ least_epoch s)
      go (inl h) =
          let same : slice_index s.epochs i ≡ slice_index s.epochs shard = ap (λ k. slice_index s.epochs k) h.0 in
          (omega (arith, same, h.2), omega (arith, same, h.2), omega (arith, h.2, m.least))
      go (inr h) = (omega (arith, h.0, v.epochs.swept_not_ahead i l), omega (arith, h.0, v.epochs.swept_not_behind i l), omega (arith, h.0, v.epochs.swept_entered i l))

  pub swept_valid : Valid (sweep s shard)
  swept_valid = record {
    epochs = record {
      some_shard = v.epochs.some_shard;
      swept_each = length-set s.swept shard (slice_index s.epochs shard) ∙ v.epochs.swept_each;
      not_ahead = v.epochs.not_ahead;
      not_behind = v.epochs.not_behind;
      swept_not_ahead = λ i l. (sweep-swept i l).0;
      swept_not_behind = λ i l. (sweep-swept i l).1;
      swept_entered = λ i l. (sweep-swept i l).2;
    };
    anchored = λ a r. let i = was_anchored a r in rw (is_kept a i) (v.anchored a i);
    held = λ held i l. still_reached held.epoch l held.address (v.held held i l);
    given = record {
      given_present = λ e n. let b = member_of_map (λ (b : Address × StoredBlock). b.0) e.0 (sweep s shard).blocks (member_from_among e.0 (map (λ (b : Address × StoredBlock). b.0) (sweep s shard).blocks) (member_of_filter kept_gift e s.given n).1) in subst (λ z. is_some (lookup (is_at (address_cmp z)) (sweep s shard).blocks) ≡ true) (sym b.2) (some_from_member (sweep s shard).blocks b.0 b.1);
      present_given = λ e n. let g = v.given.present_given e (old_block e n) in (g.0, member-filter kept_gift (e.0, g.0) s.given g.1 (among_kept e.0 e.1 n));
      born = λ a stored epoch n k. v.given.born a stored epoch (old_block (a, stored) n) (old_gift (a, epoch) k);
      now = λ e n. v.given.now e (old_gift e n);
    };
  }

pub sweep_valid : (s : Store) → Valid s → (shard : ℕ) → may_sweep s shard ≡ true → Valid (sweep s shard)
sweep_valid s v shard t = swept_valid s v shard (may_sweep-gives s shard v.epochs.some_shard t)
