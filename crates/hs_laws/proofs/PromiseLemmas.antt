-- What a valid store has present, and the empty store.
use Rattle.std.proofs.Common.{◌≡◌, ℕ, ◌+◌, ◌<◌, ◌≤◌, inl, inr, [], ◌∷◌, zero, suc, length, true, Option, Some, None, unwrap_or, refl, sym, subst, arith, slice_index, nat_le, is_some, replicate, mod-lt}
use Rattle.std.proofs.lemmas.Grind.{common_steps}
use Rattle.std.specs.Option.{option_map_or}
use Rattle.hs_limits.specs.declared.address.Address.{Address}
use Rattle.hs_limits.specs.declared.address.Held.{Held}
use Rattle.hs_model.specs.Reach.{anchors, counts_in}
use Rattle.hs_model.specs.Store.{Store, Root, block_at, epoch_at, root_epoch, shard_at, empty_store, reborn}
use Rattle.hs_laws.specs.Valid.{least_epoch, rests_on, stands_in}
use Rattle.hs_laws.proofs.EpochLemmas.{nat_le_from, nat_le-true, least_epoch-at, least_epoch-greatest}
use Rattle.hs_model.proofs.Members.{Member}
use Rattle.hs_model.proofs.ReachLemmas.{Reached-each, start, Reaches}
use Rattle.hs_laws.proofs.ValidLemmas.{starts-root, starts-given, starts-each, Reaches-more, HeldIn, Valid}

-- ---- from what is held to the anchors

pub counts_from_stands : (s : Store) (epoch run : ℕ) (root : Root) → run ≤ epoch + 1 → nat_le epoch (stands_in s root) ≡ true → counts_in run root ≡ true
counts_from_stands s epoch run root l t = go root.dropped refl t
  where
    go : (d : Option ℕ) → root.dropped ≡ d → nat_le epoch (unwrap_or d (root_epoch s root.key)) ≡ true → option_map_or (λ dropped. nat_le run (dropped + 1)) root.dropped true ≡ true
    go None e u = rw e
    go (Some d) e u = rw e (nat_le-true run (d + 1) (omega (arith, l, nat_le_from epoch d u)))

pub anchors-rests : (s : Store) (epoch run : ℕ) → run ≤ epoch + 1 → (a : Address) → Member a (rests_on s epoch) → Member a (anchors s run)
anchors-rests s epoch run l a m =
    starts-each (λ a. Member a (anchors s run)) (λ root. nat_le epoch (stands_in s root)) (λ e. nat_le epoch e.1) s.roots s.given (λ root n t. starts-root (counts_in run) (λ e. nat_le run (e.1 + 1)) s.roots s.given root n (counts_from_stands s epoch run root l t)) (λ e n t. starts-given (counts_in run) (λ e. nat_le run (e.1 + 1)) s.roots s.given e n (nat_le-true run (e.1 + 1) (omega (arith, l, nat_le_from epoch e.1 t)))) a m

pub anchored_from_held : (s : Store) (epoch run : ℕ) (a : Address) → run ≤ epoch + 1 → Reaches s.blocks (rests_on s epoch) a → Reaches s.blocks (anchors s run) a
anchored_from_held s epoch run a l r = Reaches-more s.blocks (rests_on s epoch) (anchors s run) (λ a m. start (anchors-rests s epoch run l a m)) a r

-- ---- shards

pub least-epoch_at : (s : Store) (a : Address) → 0 < length s.epochs → least_epoch s ≤ epoch_at s a
least-epoch_at s a h = least_epoch-at s (shard_at s a) (mod-lt (slice_index a.0 31) h)

-- ---- what is present

pub held_present : (s : Store) → Valid s → (held : Held) → HeldIn s.sessions held → epoch_at s held.address ≤ held.epoch + 1 → (b : Address) → Reaches s.blocks (held.address ∷ []) b → is_some (block_at s b) ≡ true
held_present s v held i f b r =
    let l : least_epoch s ≤ held.epoch + 1 = omega (arith, f, least-epoch_at s held.address v.epochs.some_shard) in
    let here : Reaches s.blocks (anchors s (least_epoch s)) held.address = anchored_from_held s held.epoch (least_epoch s) held.address l (v.held held i l) in
    v.anchored b (Reaches-more s.blocks (held.address ∷ []) (anchors s (least_epoch s)) (λ a m. elim m [ inl e ↦ subst (λ z. Reaches s.blocks (anchors s (least_epoch s)) z) (sym e) here | inr n ↦ absurd n ]) b r)

pub root_anchored : (s : Store) (run : ℕ) (root : Root) → Member root s.roots → root.dropped ≡ None → Member root.address (anchors s run)
root_anchored s run root m e = starts-root (counts_in run) (λ e. nat_le run (e.1 + 1)) s.roots s.given root m (rw e)

pub root_present : (s : Store) → Valid s → (root : Root) → Member root s.roots → root.dropped ≡ None → (b : Address) → Reaches s.blocks (root.address ∷ []) b → is_some (block_at s b) ≡ true
root_present s v root m e b r =
    let here : Reaches s.blocks (anchors s (least_epoch s)) root.address = start (root_anchored s (least_epoch s) root m e) in
    v.anchored b (Reaches-more s.blocks (root.address ∷ []) (anchors s (least_epoch s)) (λ a n. elim n [ inl e ↦ subst (λ z. Reaches s.blocks (anchors s (least_epoch s)) z) (sym e) here | inr n ↦ absurd n ]) b r)

-- ---- the empty store, and a stop

replicate-at : (n i : ℕ) → i < n → slice_index (replicate n 1) i ≡ 1
replicate-at zero i h = absurd (omega (arith, h))
replicate-at (suc n) zero h = refl
replicate-at (suc n) (suc i) h = replicate-at n i (omega (arith, h))

replicate-length : (n : ℕ) → length {A = ℕ} (replicate n 1) ≡ n
replicate-length zero = refl
replicate-length (suc n) = grind (arith, common_steps, replicate-length n)

pub empty_valid : (shards : ℕ) → 0 < shards → Valid (empty_store shards)
empty_valid shards h =
    let s = empty_store shards in
    let some : 0 < length s.epochs = rw (replicate-length shards) h in
    let one : (i : ℕ) → i < length s.epochs → slice_index s.epochs i ≡ 1 = λ i l. replicate-at shards i (rw (replicate-length shards) at l) in
    record {
      epochs = record {
        some_shard = some;
        swept_each = refl;
        not_ahead = λ i l. omega (arith, one i l, one 0 some);
        not_behind = λ i l. omega (arith, one i l, one 0 some);
        swept_not_ahead = λ i l. omega arith;
        swept_not_behind = λ i l. omega arith;
        swept_entered = λ i l. least_epoch-greatest s (slice_index s.swept i) some (λ j k. omega (arith, one i l, one j k));
      };
      anchored = λ a r. absurd (Reached-each (λ b. ⊥) (λ a m. m) (λ a b q i p. i) a r);
      held = λ held i l. absurd i.2;
      given = record {
        given_present = λ e m. absurd m;
        present_given = λ e m. absurd m;
        born = λ a stored epoch m n. absurd m;
        now = λ e m. absurd m;
      };
    }

pub reborn_valid : (s : Store) → Valid s → Valid (reborn s)
reborn_valid s v = record { epochs = record { some_shard = v.epochs.some_shard; swept_each = v.epochs.swept_each; not_ahead = v.epochs.not_ahead; not_behind = v.epochs.not_behind; swept_not_ahead = v.epochs.swept_not_ahead; swept_not_behind = v.epochs.swept_not_behind; swept_entered = v.epochs.swept_entered }; anchored = v.anchored; held = λ held i l. absurd i.2; given = record { given_present = v.given.given_present; present_given = v.given.present_given; born = v.given.born; now = v.given.now } }
