-- Changes that ascend from one to the next.
use Rattle.std.proofs.Common.{◌≡◌, ◌∙◌, sym, ap, ap₂, ℕ, ◌+◌, ◌<◌, ◌≤◌, List, [], length, map, refl, arith, get_or}
use Rattle.std.proofs.lemmas.List.{get_or-map, length-map}
use Rattle.std.proofs.lemmas.Map.Keys.{Less-from_sorted, sorted_from_all_adjacent}
use Rattle.std.specs.Cmp.{IsTotalOrder}
use Rattle.std.specs.Cmp.Lexicographic.{on_texts, slice_cmp}
use Rattle.std.specs.List.Sorted.{IsStrictlySortedBy}
use Rattle.std.specs.Ordering.{nat_cmp}
use Rattle.std.specs.declared.cmp.Ordering.TheVariants.{Less}
use Rattle.hs_limits.specs.declared.address.Address.{Address}
use Rattle.hs_limits.specs.declared.delta.Delta.{Delta}

abbrev pub no_delta : Delta
no_delta = record { address = record { 0 = [] }; amount = 0 }

abbrev pub Below : Address → Address → Type 0
Below a b = slice_cmp nat_cmp a.0 b.0 ≡ Less

addresses_total : IsTotalOrder (λ (a b : Address). slice_cmp nat_cmp a.0 b.0)
addresses_total = on_texts (λ (a : Address). a.0)

-- where each is below the next, they ascend
pub ascend_by_steps : (deltas : List Delta) (none : Delta) → ((k : ℕ) → k + 1 < length deltas → Below (get_or deltas k none).address (get_or deltas (k + 1) none).address)
    → IsStrictlySortedBy (λ a b. slice_cmp nat_cmp a.0 b.0) (map (λ delta. delta.address) deltas)
ascend_by_steps deltas none steps = sorted_from_all_adjacent addresses_total (map (λ (delta : Delta). delta.address) deltas) none.address (λ k h.
    let n : length (map (λ (delta : Delta). delta.address) deltas) ≡ length deltas = length-map deltas (λ (delta : Delta). delta.address) in
    let here : k + 1 < length deltas = omega (arith, n, h) in
    let first = get_or-map (λ (delta : Delta). delta.address) deltas k none none.address (omega (arith, here)) in
    let second = get_or-map (λ (delta : Delta). delta.address) deltas (k + 1) none none.address here in
    rw (first, second) (steps k here))

-- and where they ascend, each is below the next
pub each_step_ascends : (deltas : List Delta) (none : Delta) (k : ℕ) → IsStrictlySortedBy (λ a b. slice_cmp nat_cmp a.0 b.0) (map (λ delta. delta.address) deltas) → k + 1 < length deltas
    → Below (get_or deltas k none).address (get_or deltas (k + 1) none).address
each_step_ascends deltas none k sorted here =
    let n : length (map (λ (delta : Delta). delta.address) deltas) ≡ length deltas = length-map deltas (λ (delta : Delta). delta.address) in
    let below = Less-from_sorted (λ (a b : Address). slice_cmp nat_cmp a.0 b.0) (map (λ (delta : Delta). delta.address) deltas) k (k + 1) none.address sorted (omega arith) (omega (arith, n, here)) in
    let first = get_or-map (λ (delta : Delta). delta.address) deltas k none none.address (omega (arith, here)) in
    let second = get_or-map (λ (delta : Delta). delta.address) deltas (k + 1) none none.address here in
    rw (sym first, sym second) below
