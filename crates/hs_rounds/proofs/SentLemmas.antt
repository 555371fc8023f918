-- What a round tells each shard.
use Rattle.std.proofs.Common.{◌≡◌, ℕ, ◌≤◌, Bool, true, false, List, [], ◌∷◌, get_or, map, take, filter, zero, suc, refl, arith, length-take}
use Rattle.std.proofs.lemmas.List.Elements.{All-filter, All-map, All-take}
use Rattle.std.proofs.lemmas.List.FromFn.{length-map-range_with_len}
use Rattle.std.specs.List.{AllByRecursion, range_with_len}
use Rattle.std.specs.List.Sorted.{IsStrictlySortedBy}
use Rattle.std.specs.Cmp.Lexicographic.{slice_cmp}
use Rattle.std.specs.Ordering.{nat_cmp}
use Rattle.std.specs.Prelude.{◌==◌}
use Rattle.std.specs.declared.cmp.Ordering.{Ordering}
use Rattle.std.specs.declared.cmp.Ordering.TheVariants.{Less}
use Rattle.hs_limits.specs.declared.address.Address.{Address}
use Rattle.hs_limits.specs.declared.delta.Delta.{Delta}
use Rattle.hs_limits.specs.Limits.{greatest_limits}
use Rattle.hs_limits.specs.Shape.{shard_of}
use Rattle.hs_rounds.specs.Changes.{AreChanges}
use Rattle.hs_rounds.specs.Rounds.{IsSent, IsTold, bodies_for, body_for}

module _ {K X : Type 0} (cmp : K → K → Ordering) (key : X → K) where
  all_filter : (P : K → Type 0) (p : X → Bool) (xs : List X) → AllByRecursion P (map key xs) → AllByRecursion P (map key (filter p xs))
  all_filter P p [] all = all
  all_filter P p (x ∷ xs) all = go (p x) refl (all_filter P p xs all.1)
    where
      go : (b : Bool) → p x ≡ b → AllByRecursion P (map key (filter p xs)) → AllByRecursion P (map key (filter p (x ∷ xs)))
      go true e rest = rw e (all.0, rest)
      go false e rest = rw e rest

  all_take : (P : K → Type 0) (n : ℕ) (xs : List X) → AllByRecursion P (map key xs) → AllByRecursion P (map key (take n xs))
  all_take P zero xs all = tt
  all_take P (suc n) [] all = tt
  all_take P (suc n) (x ∷ xs) all = (all.0, all_take P n xs all.1)

  -- some of what ascends ascends
  pub ascend_filter : (p : X → Bool) (xs : List X) → IsStrictlySortedBy cmp (map key xs) → IsStrictlySortedBy cmp (map key (filter p xs))
  unfolding IsStrictlySortedBy
  ascend_filter p [] up = up
  ascend_filter p (x ∷ xs) up = go (p x) refl (ascend_filter p xs up.1)
    where
      go : (b : Bool) → p x ≡ b → IsStrictlySortedBy cmp (map key (filter p xs)) → IsStrictlySortedBy cmp (map key (filter p (x ∷ xs)))
      go true e rest = rw e (all_filter (λ k. cmp (key x) k ≡ Less) p xs up.0, rest)
      go false e rest = rw e rest

  pub ascend_take : (n : ℕ) (xs : List X) → IsStrictlySortedBy cmp (map key xs) → IsStrictlySortedBy cmp (map key (take n xs))
  unfolding IsStrictlySortedBy
  ascend_take zero xs up = tt
  ascend_take (suc n) [] up = tt
  ascend_take (suc n) (x ∷ xs) up = (all_take (λ k. cmp (key x) k ≡ Less) n xs up.0, ascend_take n xs up.1)

-- a shard is told changes, as the sender has them
pub told_are_changes : (shards total : ℕ) (deltas : List Delta) (to : ℕ) → AreChanges deltas → IsTold (body_for shards total deltas to)
told_are_changes shards total deltas to are =
    let own : Delta → Bool = λ delta. shard_of shards delta.address == to in
    let key : Delta → Address = λ delta. delta.address in
    let cmp : Address → Address → Ordering = λ a b. slice_cmp nat_cmp a.0 b.0 in
    record {
      changes = record {
        ascend = ascend_take cmp key greatest_limits.blocks (filter own deltas) (ascend_filter cmp key own deltas are.ascend);
        some = All-take (λ delta. 1 ≤ delta.amount) greatest_limits.blocks (filter own deltas) (All-filter own (λ delta. 1 ≤ delta.amount) deltas are.some);
      };
      few = omega (arith, length-take greatest_limits.blocks (filter own deltas));
    }

-- and each is told some
pub sent_to_each : (shards epoch round total : ℕ) (deltas : List Delta) → AreChanges deltas
    → IsSent shards (record { epoch = epoch; round = round; bodies = bodies_for shards total deltas })
sent_to_each shards epoch round total deltas are = record {
  bodies = length-map-range_with_len (body_for shards total deltas) 0 shards;
  told = All-map IsTold (body_for shards total deltas) (range_with_len 0 shards) (λ i d below. told_are_changes shards total deltas (get_or (range_with_len 0 shards) i d) are);
}
