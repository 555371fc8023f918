-- A shard that enters its next epoch keeps a store valid.
use Rattle.std.proofs.Common.{◌≡◌, ◌≢◌, ℕ, ◌+◌, ◌<◌, ◌≤◌, ◌⊎◌, inl, inr, List, [], ◌∷◌, zero, suc, length, Bool, true, false, not, Option, Some, None, unwrap_or, refl, sym, ap, ◌∙◌, arith, slice_index, slice_set, nat_le, ◌==◌, ◌&&◌, ◌||◌, length-set, tests}
use Rattle.std.proofs.lemmas.Bool.{and_parts}
use Rattle.std.proofs.lemmas.Grind.{common_steps}
use Rattle.std.specs.Option.{option_map_or}
use Rattle.hs_limits.specs.Shape.{shard_of, shard_of_key}
use Rattle.hs_limits.specs.declared.address.Address.{Address}
use Rattle.hs_model.specs.Inner.{none_below, may_enter, stays, enter}
use Rattle.hs_model.specs.Reach.{anchors, counts_in}
use Rattle.hs_model.specs.Store.{Store, Root, epoch_at, root_epoch}
use Rattle.hs_laws.specs.Valid.{least_epoch, rests_on, stands_in}
use Rattle.hs_laws.proofs.EpochLemmas.{nat_le_from, nat_le-true, least_epoch-at, least_epoch-greatest, least_from_none_below}
use Rattle.hs_model.proofs.Members.{Member, member-filter, member_of_filter}
use Rattle.hs_model.proofs.ReachLemmas.{start}
use Rattle.hs_laws.proofs.ValidLemmas.{starts-root, starts-given, starts-each, Reaches-more, Valid}

-- ---- one number of a list set

pub set-at : (xs : List ℕ) (i v j : ℕ) → ((j ≡ i) × (i < length xs) × (slice_index (slice_set xs i v) j ≡ v)) ⊎ ((slice_index (slice_set xs i v) j ≡ slice_index xs j) × (i < length xs → j ≢ i))
set-at [] i v j = inr (refl, λ h e. omega (arith, h))
set-at (x ∷ xs) zero v zero = inl (refl, grind (arith, common_steps), refl)
set-at (x ∷ xs) zero v (suc j) = inr (refl, λ h e. omega (arith, e))
set-at (x ∷ xs) (suc i) v zero = inr (refl, λ h e. omega (arith, e))
set-at (x ∷ xs) (suc i) v (suc j) = go (set-at xs i v j)
  where
    go : ((j ≡ i) × (i < length xs) × (slice_index (slice_set xs i v) j ≡ v)) ⊎ ((slice_index (slice_set xs i v) j ≡ slice_index xs j) × (i < length xs → j ≢ i)) → ((suc j ≡ suc i) × (suc i < length (x ∷ xs)) × (slice_index (slice_set xs i v) j ≡ v)) ⊎ ((slice_index (slice_set xs i v) j ≡ slice_index xs j) × (suc i < length (x ∷ xs) → suc j ≢ suc i))
    go (inl h) = inl (omega (arith, h.0), grind (arith, common_steps, h.1), h.2)
    go (inr h) = inr (h.0, λ l e. h.1 (grind (arith, common_steps, l)) (omega (arith, e)))

pub set-more : (xs : List ℕ) (i j : ℕ) → slice_index xs j ≤ slice_index (slice_set xs i (slice_index xs i + 1)) j
set-more xs i j = go (set-at xs i (slice_index xs i + 1) j)
  where
    go : ((j ≡ i) × (i < length xs) × (slice_index (slice_set xs i (slice_index xs i + 1)) j ≡ slice_index xs i + 1)) ⊎ ((slice_index (slice_set xs i (slice_index xs i + 1)) j ≡ slice_index xs j) × (i < length xs → j ≢ i)) → slice_index xs j ≤ slice_index (slice_set xs i (slice_index xs i + 1)) j
    go (inl h) = let e : slice_index xs j ≡ slice_index xs i = ap (λ k. slice_index xs k) h.0 in omega (arith, e, h.2)
    go (inr h) = omega (arith, h.0)

-- ---- the epochs

-- what is known where the shard may enter
pub record MayEnter (s : Store) (shard : ℕ) : Type 0 where
  pub swept : slice_index s.swept shard ≡ slice_index s.epochs shard
  pub least : slice_index s.epochs shard ≤ least_epoch s
  pub behind : (shard ≡ 0) ⊎ (slice_index s.epochs 0 ≡ slice_index s.epochs shard + 1)

or_cases : (a b : Bool) → (a || b) ≡ true → (a ≡ true) ⊎ (b ≡ true)
or_cases true b h = inl refl
or_cases false b h = inr h

pub may_enter-gives : (s : Store) (shard : ℕ) → 0 < length s.epochs → may_enter s shard ≡ true → MayEnter s shard
may_enter-gives s shard h t =
    let epoch = slice_index s.epochs shard in
    let both = and_parts ((slice_index s.swept shard == epoch) && none_below s epoch) (shard == 0 || slice_index s.epochs 0 == epoch + 1) t in
    let one = and_parts (slice_index s.swept shard == epoch) (none_below s epoch) both.0 in
    record {
      swept = grind (arith, tests, one.0);
      least = least_from_none_below s epoch h one.1;
      behind = elim (or_cases (shard == 0) (slice_index s.epochs 0 == epoch + 1) both.1) [ inl e ↦ inl (grind (arith, tests, e)) | inr e ↦ inr (grind (arith, tests, e)) ];
    }

pub enter-length : (s : Store) (shard : ℕ) → length (enter s shard).epochs ≡ length s.epochs
enter-length s shard = length-set s.epochs shard (slice_index s.epochs shard + 1)

pub enter-least : (s : Store) (shard : ℕ) → 0 < length s.epochs → least_epoch s ≤ least_epoch (enter s shard)
enter-least s shard h = least_epoch-greatest (enter s shard) (least_epoch s) (rw (enter-length s shard) h) (λ i l. omega (arith, least_epoch-at s i (rw (enter-length s shard) at l), set-more s.epochs shard i))

abbrev IsSet : Store → ℕ → ℕ → Type 0
IsSet s shard i = ((i ≡ shard) × (shard < length s.epochs) × (slice_index (enter s shard).epochs i ≡ slice_index s.epochs shard + 1)) ⊎ ((slice_index (enter s shard).epochs i ≡ slice_index s.epochs i) × (shard < length s.epochs → i ≢ shard))

is_set : (s : Store) (shard i : ℕ) → IsSet s shard i
is_set s shard i = set-at s.epochs shard (slice_index s.epochs shard + 1) i

enter-not_ahead : (s : Store) (v : Valid s) (shard : ℕ) → MayEnter s shard → (i : ℕ) → i < length s.epochs → slice_index (enter s shard).epochs i ≤ slice_index (enter s shard).epochs 0
enter-not_ahead s v shard m i l = go (is_set s shard i) m.behind
  where
    go : IsSet s shard i → (shard ≡ 0) ⊎ (slice_index s.epochs 0 ≡ slice_index s.epochs shard + 1) → slice_index (enter s shard).epochs i ≤ slice_index (enter s shard).epochs 0
    go (inl h) (inl z) = let e : slice_index (enter s shard).epochs i ≡ slice_index (enter s shard).epochs 0 = ap (λ k. slice_index (enter s shard).epochs k) (h.0 ∙ z) in omega (arith, e)
    go (inl h) (inr z) = omega (arith, h.2, z, set-more s.epochs shard 0)
    go (inr h) z = omega (arith, h.0, v.epochs.not_ahead i l, set-more s.epochs shard 0)

enter-not_behind : (s : Store) (v : Valid s) (shard : ℕ) → MayEnter s shard → (i : ℕ) → i < length s.epochs → slice_index (enter s shard).epochs 0 ≤ slice_index (enter s shard).epochs i + 1
enter-not_behind s v shard m i l = go (is_set s shard 0) (is_set s shard i)
  where
    go : IsSet s shard 0 → IsSet s shard i → slice_index (enter s shard).epochs 0 ≤ slice_index (enter s shard).epochs i + 1
    go (inl h) k = omega (arith, h.2, m.least, least_epoch-at s i l, set-more s.epochs shard i)
    go (inr h) k = omega (arith, h.0, v.epochs.not_behind i l, set-more s.epochs shard i)

enter-swept : (s : Store) (v : Valid s) (shard : ℕ) → MayEnter s shard → (i : ℕ) → i < length s.epochs → slice_index (enter s shard).epochs i ≤ slice_index s.swept i + 1
enter-swept s v shard m i l = go (is_set s shard i)
  where
    go : IsSet s shard i → slice_index (enter s shard).epochs i ≤ slice_index s.swept i + 1
    go (inl h) = let e : slice_index s.swept i ≡ slice_index s.swept shard = ap (λ k. slice_index s.swept k) h.0 in omega (arith, e, h.2, m.swept)
    go (inr h) = omega (arith, h.0, v.epochs.swept_not_behind i l)

-- ---- roots and gifts

counts_less : (run later : ℕ) (root : Root) → run ≤ later → counts_in later root ≡ true → counts_in run root ≡ true
counts_less run later root l t = go root.dropped refl t
  where
    go : (d : Option ℕ) → root.dropped ≡ d → option_map_or (λ dropped. nat_le later (dropped + 1)) d true ≡ true → option_map_or (λ dropped. nat_le run (dropped + 1)) root.dropped true ≡ true
    go None e u = rw e
    go (Some d) e u = rw e (nat_le-true run (d + 1) (omega (arith, l, nat_le_from later (d + 1) u)))

-- fewer anchors after the enter
enter-anchors : (s : Store) (shard : ℕ) → 0 < length s.epochs → (a : Address) → Member a (anchors (enter s shard) (least_epoch (enter s shard))) → Member a (anchors s (least_epoch s))
enter-anchors s shard h a m =
    let t = enter s shard in
    let more = enter-least s shard h in
    starts-each (λ a. Member a (anchors s (least_epoch s))) (counts_in (least_epoch t)) (λ e. nat_le (least_epoch t) (e.1 + 1)) t.roots s.given (λ root n u. starts-root (counts_in (least_epoch s)) (λ e. nat_le (least_epoch s) (e.1 + 1)) s.roots s.given root (member_of_filter (stays (record s { epochs = slice_set s.epochs shard (slice_index s.epochs shard + 1) })) root s.roots n).0 (counts_less (least_epoch s) (least_epoch t) root more u)) (λ e n u. starts-given (counts_in (least_epoch s)) (λ e. nat_le (least_epoch s) (e.1 + 1)) s.roots s.given e n (nat_le-true (least_epoch s) (e.1 + 1) (omega (arith, more, nat_le_from (least_epoch t) (e.1 + 1) u)))) a m

enter-root_epoch : (s : Store) (shard : ℕ) (key : List ℕ) → root_epoch s key ≤ root_epoch (enter s shard) key
enter-root_epoch s shard key = rw (enter-length s shard) (set-more s.epochs shard (shard_of_key (length s.epochs) key))

enter-epoch_at : (s : Store) (shard : ℕ) (a : Address) → epoch_at s a ≤ epoch_at (enter s shard) a
enter-epoch_at s shard a = rw (enter-length s shard) (set-more s.epochs shard (shard_of (length s.epochs) a))

not-true : (b : Bool) → (b ≡ true → ⊥) → not b ≡ true
not-true true f = absurd (f refl)
not-true false f = refl

-- whether a root stays is read of the epochs alone
pub stays-epochs : (s t : Store) (root : Root) → s.epochs ≡ t.epochs → stays s root ≡ stays t root
stays-epochs s t root same = ap (λ epochs. stays (record s { epochs = epochs }) root) same

-- a root on which something rests that may still be used stays, and stands no less
root-stays : (s : Store) (shard epoch : ℕ) (root : Root) → 0 < length s.epochs → least_epoch (enter s shard) ≤ epoch + 1 → nat_le epoch (stands_in s root) ≡ true → (stays (record s { epochs = slice_set s.epochs shard (slice_index s.epochs shard + 1) }) root ≡ true) × (nat_le epoch (stands_in (enter s shard) root) ≡ true)
root-stays s shard epoch root h l t = go root.dropped refl t
  where
    go : (d : Option ℕ) → root.dropped ≡ d → nat_le epoch (unwrap_or d (root_epoch s root.key)) ≡ true → (stays (record s { epochs = slice_set s.epochs shard (slice_index s.epochs shard + 1) }) root ≡ true) × (nat_le epoch (stands_in (enter s shard) root) ≡ true)
    go None e u = (rw e, rw e (nat_le-true epoch (root_epoch (enter s shard) root.key) (omega (arith, nat_le_from epoch (root_epoch s root.key) u, enter-root_epoch s shard root.key))))
    go (Some d) e u = (rw e (not-true (none_below (enter s shard) (d + 2)) (λ b. omega (arith, l, nat_le_from epoch d u, least_from_none_below (enter s shard) (d + 2) (rw (enter-length s shard) h) b))), rw e u)

pub enter-rests : (s : Store) (shard epoch : ℕ) → 0 < length s.epochs → least_epoch (enter s shard) ≤ epoch + 1 → (a : Address) → Member a (rests_on s epoch) → Member a (rests_on (enter s shard) epoch)
enter-rests s shard epoch h l a m =
    let t = enter s shard in
    starts-each (λ a. Member a (rests_on t epoch)) (λ root. nat_le epoch (stands_in s root)) (λ e. nat_le epoch e.1) s.roots s.given (λ root n u. let k = root-stays s shard epoch root h l u in starts-root (λ root. nat_le epoch (stands_in t root)) (λ e. nat_le epoch e.1) t.roots s.given root (member-filter (stays (record s { epochs = slice_set s.epochs shard (slice_index s.epochs shard + 1) })) root s.roots n k.0) k.1) (λ e n u. starts-given (λ root. nat_le epoch (stands_in t root)) (λ e. nat_le epoch e.1) t.roots s.given e n u) a m

pub enter_valid : (s : Store) → Valid s → (shard : ℕ) → may_enter s shard ≡ true → Valid (enter s shard)
enter_valid s v shard t =
    let h = v.epochs.some_shard in
    let m = may_enter-gives s shard h t in
    let more = enter-least s shard h in
    let short : (i : ℕ) → i < length (enter s shard).epochs → i < length s.epochs = λ i l. rw (enter-length s shard) at l in
    record {
      epochs = record {
        some_shard = rw (enter-length s shard) h;
        swept_each = v.epochs.swept_each ∙ sym (enter-length s shard);
        not_ahead = λ i l. enter-not_ahead s v shard m i (short i l);
        not_behind = λ i l. enter-not_behind s v shard m i (short i l);
        swept_not_ahead = λ i l. omega (arith, v.epochs.swept_not_ahead i (short i l), set-more s.epochs shard i);
        swept_not_behind = λ i l. enter-swept s v shard m i (short i l);
        swept_entered = λ i l. omega (arith, v.epochs.swept_entered i (short i l), more);
      };
      anchored = λ a r. v.anchored a (Reaches-more s.blocks (anchors (enter s shard) (least_epoch (enter s shard))) (anchors s (least_epoch s)) (λ a n. start (enter-anchors s shard h a n)) a r);
      held = λ held i l. Reaches-more s.blocks (rests_on s held.epoch) (rests_on (enter s shard) held.epoch) (λ a n. start (enter-rests s shard held.epoch h l a n)) held.address (v.held held i (omega (arith, l, more)));
      given = record {
        given_present = v.given.given_present;
        present_given = v.given.present_given;
        born = v.given.born;
        now = λ e n. omega (arith, v.given.now e n, enter-epoch_at s shard e.0);
      };
    }
