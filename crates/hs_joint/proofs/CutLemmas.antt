-- What is told is told whole: told addresses are present and distinct, so that no round is cut.
use Rattle.std.proofs.Common.{◌≡◌, ◌⊎◌, inl, inr, ℕ, zero, suc, ◌+◌, ◌≤◌, ◌<◌, ◌==◌, List, [], ◌∷◌, length, map, filter, Bool, true, false, cond, Option, Some, None, unwrap_or, if◌then◌else◌, refl, sym, ap, ◌∙◌, subst, arith}
use Rattle.std.proofs.lemmas.Bool.{eq-eqb, eqb-true}
use Rattle.std.proofs.lemmas.List.{take_all}
use Rattle.std.proofs.lemmas.Option.{slice_get-map}
use Rattle.std.specs.BTreeMap.{is_at}
use Rattle.std.specs.List.{range_with_len}
use Rattle.std.specs.List.Sorted.{IsStrictlySortedBy}
use Rattle.std.specs.Map.{lookup, keys_of}
use Rattle.std.specs.Option.{option_map}
use Rattle.std.specs.Prelude.{slice_get}
use Rattle.hs_limits.specs.declared.address.Address.{Address}
use Rattle.hs_limits.specs.declared.delta.Delta.{Delta}
use Rattle.hs_limits.specs.Shape.{shard_of}
use Rattle.hs_model.specs.Reach.{is_same}
use Rattle.hs_model.specs.Store.{address_cmp}
use Rattle.hs_model.proofs.Members.{Member, member_of_filter, same_from}
use Rattle.hs_laws.proofs.InsertLemmas.{insert-key}
use Rattle.hs_laws.proofs.OrderLemmas.{filter-sorted}
use Rattle.hs_rounds.specs.declared.body.RoundBody.{RoundBody}
use Rattle.hs_rounds.specs.Changes.{changes_for}
use Rattle.hs_rounds.specs.Rounds.{body_for, bodies_for}
use Rattle.hs_deletion.specs.Machine.{Layout, Machine, sum_below}
use Rattle.hs_deletion.specs.Rounds.{times, raised_in, lowered_in}
use Rattle.hs_deletion.specs.Anchors.{IsThere}
use Rattle.hs_deletion.specs.Invariants.{IsRight}
use Rattle.hs_deletion.proofs.ClockLemmas.{sent_near}
use Rattle.hs_deletion.proofs.CountLemmas.{there_or_not}
use Rattle.hs_deletion.proofs.PromiseLemmas.{absent_is_unnamed}
use Rattle.hs_deletion.proofs.SumLemmas.{none_of_sum_below}
use Rattle.hs_fold.specs.Runs.Counts.{amount_at}
use Rattle.hs_fold.specs.Runs.Told.{tally, counted_up}
use Rattle.hs_fold.proofs.Runs.EndLemmas.{filter-map}
use Rattle.hs_joint.specs.Seen.{repeated}
use Rattle.hs_joint.proofs.AmountLemmas.{times_repeated}
use Rattle.hs_joint.proofs.KeyLemmas.{no_more_keys}
use Rattle.hs_joint.proofs.TellLemmas.{counted_sorted}

-- ---- what one shard of many is told

range_at : (n a k j : ℕ) → slice_get (range_with_len a n) k ≡ Some j → (k < n) × (j ≡ a + k)
range_at zero a k j e = cc e
range_at (suc n) a zero j e = (omega arith, let is : a ≡ j = cc e in omega (arith, is))
range_at (suc n) a (suc k) j e = let r = range_at n (a + 1) k j e in (omega (arith, r.0), omega (arith, r.1))

pub body_told : (n total : ℕ) (deltas : List Delta) (to : ℕ) (told : RoundBody) → slice_get (bodies_for n total deltas) to ≡ Some told → (to < n) × (body_for n total deltas to ≡ told)
body_told n total deltas to told e = go (slice_get (range_with_len 0 n) to) refl (sym (slice_get-map (body_for n total deltas) (range_with_len 0 n) to) ∙ e)
  where
    go : (o : Option ℕ) → slice_get (range_with_len 0 n) to ≡ o → option_map (body_for n total deltas) o ≡ Some told → (to < n) × (body_for n total deltas to ≡ told)
    go None q e = cc e
    go (Some j) q e =
        let r = range_at n 0 to j q in
        let same : j ≡ to = omega (arith, r.1) in
        let is : body_for n total deltas j ≡ told = cc e in
        (r.0, ap (body_for n total deltas) (sym same) ∙ is)

abbrev own : ℕ → ℕ → Delta → Bool
own n to d = shard_of n d.address == to

amount_own : (n to : ℕ) (a : Address) (ds : List Delta) → shard_of n a ≡ to → amount_at a (filter (own n to) ds) ≡ amount_at a ds
amount_own n to a [] e = refl
amount_own n to a (d ∷ ds) e = go (own n to d) refl (is_same d.address a) refl (amount_own n to a ds e)
  where
    go : (t : Bool) → own n to d ≡ t → (u : Bool) → is_same d.address a ≡ u → amount_at a (filter (own n to) ds) ≡ amount_at a ds
        → amount_at a (cond t (d ∷ filter (own n to) ds) (filter (own n to) ds)) ≡ (if is_same d.address a then d.amount else 0) + amount_at a ds
    go true t u v ih = omega (arith, ih)
    go false t true v ih = (let is : own n to d ≡ true = eq-eqb (shard_of n d.address) to (ap (λ x. shard_of n x) (same_from d.address a v) ∙ e) in cc (is, t))
    go false t false v ih = rw v (omega (arith, ih))

-- ---- told addresses are named

counted_named : (xs : List Address) (e : Address × ℕ) → Member e (counted_up xs) → Member e.0 xs
counted_named [] e m = elim m [ ]
counted_named (x ∷ xs) e m = elim (insert-key (counted_up xs) x (unwrap_or (lookup (is_at (address_cmp x)) (counted_up xs)) 0 + 1) e m) [ inl p ↦ inl p.0 | inr k ↦ inr (counted_named xs e k) ]

-- where what is named of a shard is among some keys, its part is as long as they are at most, and is told whole
module _ (n to : ℕ) (xs keys : List Address) (ordered : IsStrictlySortedBy address_cmp keys) (among : (a : Address) → Member a xs → shard_of n a ≡ to → Member a keys) where
  abbrev test : Address × ℕ → Bool
  test e = shard_of n e.0 == to

  part_length : length (filter (own n to) (tally xs)) ≡ length (keys_of (filter test (counted_up xs)))
  part_length = ap (λ ds. length ds) (filter-map (λ (e : Address × ℕ). record { address = e.0; amount = e.1 }) (own n to) (counted_up xs)) ∙ same (filter test (counted_up xs))
    where
      same : (es : List (Address × ℕ)) → length (map {B = Delta} (λ (e : Address × ℕ). record { address = e.0; amount = e.1 }) es) ≡ length (keys_of es)
      same [] = refl
      same (e ∷ es) = ap (λ k. suc k) (same es)

  key_of : (es : List (Address × ℕ)) (a : Address) → Member a (keys_of es) → (e : Address × ℕ) × Member e es × (e.0 ≡ a)
  key_of [] a m = elim m [ ]
  key_of (e ∷ es) a (inl q) = (e, inl refl, sym q)
  key_of (e ∷ es) a (inr m) = let o = key_of es a m in (o.0, inr o.1, o.2)

  pub few_told : length (filter (own n to) (tally xs)) ≤ length keys
  few_told =
      let low = no_more_keys (keys_of (filter test (counted_up xs))) keys (filter-sorted address_cmp test (counted_up xs) (counted_sorted xs)) ordered (λ a m. (
      let o = key_of (filter test (counted_up xs)) a m in
      let f = member_of_filter test o.0 (counted_up xs) o.1 in
      let named : Member a xs = subst (λ x. Member x xs) o.2 (counted_named xs o.0 f.0) in
      let at : shard_of n a ≡ to = ap (λ x. shard_of n x) (sym o.2) ∙ eqb-true (shard_of n o.0.0) to f.1 in
      among a named at
      )) in
      omega (arith, part_length, low)

  pub whole_told : length keys ≤ 16384 → changes_for n (tally xs) to ≡ filter (own n to) (tally xs)
  whole_told room = take_all 16384 (filter (own n to) (tally xs)) (let low = few_told in omega (arith, low, room))

  pub times_told : length keys ≤ 16384 → (a : Address) → shard_of n a ≡ to → times a (repeated (changes_for n (tally xs) to)) ≡ times a (repeated (tally xs))
  times_told room a e = ap (λ ds. times a (repeated ds)) (whole_told room) ∙ times_repeated a (filter (own n to) (tally xs)) ∙ amount_own n to a (tally xs) e ∙ sym (times_repeated a (tally xs))

-- ---- what is on its way is present

module _ (layout : Layout) (m : Machine) (right : IsRight layout m) (g : ℕ) (lg : g < layout.shards) (row : ℕ) (a : Address) (sent : row < (m.states g).sent) (next : (m.states (layout.home a)).completed ≤ row) where
  abbrev k : ℕ
  k = (m.states (layout.home a)).completed

  two : (row ≡ k) ⊎ (row ≡ k + 1)
  two = let near = sent_near layout m.states right.clocks (layout.home a) g (layout.within a) lg in split (omega (arith, near, sent)) next
    where
      split : row ≤ k + 1 → k ≤ row → (row ≡ k) ⊎ (row ≡ k + 1)
      split low high = grind arith

  pub raised_there : 0 < times a ((m.states g).rounds row).raises → IsThere m.blocks a
  unfolding raised_in
  raised_there some = elim (there_or_not m.blocks a) [
    | inl there ↦ there
    | inr none ↦ (
        let u = (absent_is_unnamed layout m right a none).raised in
        let zero_at : (j : ℕ) → sum_below layout.shards (λ shard. times a ((m.states shard).rounds j).raises) ≡ 0 → times a ((m.states g).rounds j).raises ≡ 0 = λ j e. none_of_sum_below layout.shards (λ shard. times a ((m.states shard).rounds j).raises) e g lg in
        let both : (x y : ℕ) → x + y ≡ 0 → (x ≡ 0) × (y ≡ 0) = λ x y e. (omega (arith, e), omega (arith, e)) in
        let parts = both (sum_below layout.shards (λ shard. times a ((m.states shard).rounds k).raises)) (sum_below layout.shards (λ shard. times a ((m.states shard).rounds (k + 1)).raises)) u in
        elim two [
          | inl e ↦ (let z = zero_at k parts.0 in let s : 0 < times a ((m.states g).rounds k).raises = subst (λ j. 0 < times a ((m.states g).rounds j).raises) e some in absurd (omega (arith, z, s)))
          | inr e ↦ (let z = zero_at (k + 1) parts.1 in let s : 0 < times a ((m.states g).rounds (k + 1)).raises = subst (λ j. 0 < times a ((m.states g).rounds j).raises) e some in absurd (omega (arith, z, s)))
        ]
        )
  ]

  pub lowered_there : 0 < times a ((m.states g).rounds row).lowers → IsThere m.blocks a
  unfolding lowered_in
  lowered_there some = elim (there_or_not m.blocks a) [
    | inl there ↦ there
    | inr none ↦ (
        let u = (absent_is_unnamed layout m right a none).lowered in
        let zero_at : (j : ℕ) → sum_below layout.shards (λ shard. times a ((m.states shard).rounds j).lowers) ≡ 0 → times a ((m.states g).rounds j).lowers ≡ 0 = λ j e. none_of_sum_below layout.shards (λ shard. times a ((m.states shard).rounds j).lowers) e g lg in
        let both : (x y : ℕ) → x + y ≡ 0 → (x ≡ 0) × (y ≡ 0) = λ x y e. (omega (arith, e), omega (arith, e)) in
        let parts = both (sum_below layout.shards (λ shard. times a ((m.states shard).rounds k).lowers)) (sum_below layout.shards (λ shard. times a ((m.states shard).rounds (k + 1)).lowers)) u in
        elim two [
          | inl e ↦ (let z = zero_at k parts.0 in let s : 0 < times a ((m.states g).rounds k).lowers = subst (λ j. 0 < times a ((m.states g).rounds j).lowers) e some in absurd (omega (arith, z, s)))
          | inr e ↦ (let z = zero_at (k + 1) parts.1 in let s : 0 < times a ((m.states g).rounds (k + 1)).lowers = subst (λ j. 0 < times a ((m.states g).rounds j).lowers) e some in absurd (omega (arith, z, s)))
        ]
        )
  ]
