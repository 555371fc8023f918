-- Deltas that ascend are those of an entry.
use Rattle.std.proofs.Common.{◌≡◌, ◌≤◌, ◌&&◌, ap, suc, Bool, true, false, ℕ, List, [], ◌∷◌, length, map, Option, Some, None, refl, arith, leb}
use Rattle.std.specs.declared.cmp.Ordering.{Ordering}
use Rattle.std.specs.declared.cmp.Ordering.TheVariants.{Less, Equal, Greater}
use Rattle.std.proofs.lemmas.Cmp.{nat_list_cmp_total}
use Rattle.std.specs.List.{AllByRecursion}
use Rattle.std.specs.List.Sorted.{IsStrictlySortedBy}
use Rattle.std.specs.Ordering.{is_lt}
use Rattle.std.specs.Prelude.{All, ⊤}
use Rattle.hs_readable.specs.Ascending.{are_ascending}
use Rattle.hs_entry.specs.Reading.{AreDeltas, IsDelta, address_cmp, comes_after}
use Rattle.hs_limits.specs.declared.address.Address.{Address}
use Rattle.hs_limits.specs.declared.delta.Delta.{Delta}

both_true : (a b : Bool) → (a && b) ≡ true → (a ≡ true) × (b ≡ true)
both_true true true h = (refl, refl)
both_true true false h = (refl, h)
both_true false b h = absurd (no_truth h)
  where
    no_truth : false ≡ true → ⊥
    no_truth e = grind arith

is_less : (o : Ordering) → is_lt o ≡ true → o ≡ Less
is_less Less h = refl
is_less Equal h = grind arith
is_less Greater h = grind arith

addresses_of : List Delta → List Address
addresses_of deltas = map (λ (delta : Delta). delta.address) deltas

-- what comes after one comes after those before it
after_all : (last : Address) (deltas : List Delta) → are_ascending (Some last) deltas ≡ true → AllByRecursion (λ a. address_cmp last a ≡ Less) (addresses_of deltas)
unfolding addresses_of
after_all last [] h = tt
after_all last (d ∷ deltas) h =
    let two = both_true _ (are_ascending (Some d.address) deltas) h in
    let one = both_true (leb 1 d.amount) (comes_after (Some last) d.address) two.0 in
    let less : address_cmp last d.address ≡ Less = is_less (address_cmp last d.address) one.1 in
    (less, later d.address less (addresses_of deltas) (after_all d.address deltas two.1))
  where
    later : (mid : Address) → address_cmp last mid ≡ Less → (more : List Address) → AllByRecursion (λ a. address_cmp mid a ≡ Less) more → AllByRecursion (λ a. address_cmp last a ≡ Less) more
    later mid less [] h = tt
    later mid less (a ∷ more) h = (nat_list_cmp_total.trans last.0 mid.0 a.0 less h.0, later mid less more h.1)

sorted : (last : Option Address) (deltas : List Delta) → are_ascending last deltas ≡ true → IsStrictlySortedBy address_cmp (addresses_of deltas)
unfolding addresses_of IsStrictlySortedBy
sorted last [] h = tt
sorted last (d ∷ deltas) h =
    let two = both_true _ (are_ascending (Some d.address) deltas) h in
    (after_all d.address deltas two.1, sorted (Some d.address) deltas two.1)

pub ascending_are_deltas : (deltas : List Delta) → length deltas ≤ 16665 → are_ascending None deltas ≡ true → All IsDelta deltas → AreDeltas deltas
unfolding addresses_of
ascending_are_deltas deltas few h each = record { few = few; each = each; ascend = sorted None deltas h }

-- ---- and those of an entry ascend

-- some addresses come after one, where there is one
abbrev AllAfter : Option Address → List Address → Type 0
AllAfter None xs = ⊤
AllAfter (Some a) xs = AllByRecursion (λ b. address_cmp a b ≡ Less) xs

ascends : (last : Option Address) (deltas : List Delta) → AllAfter last (addresses_of deltas) → IsStrictlySortedBy address_cmp (addresses_of deltas) → All IsDelta deltas → are_ascending last deltas ≡ true
unfolding addresses_of IsStrictlySortedBy
ascends last [] after sorted each = refl
ascends last (d ∷ deltas) after sorted each =
    let one : leb 1 d.amount ≡ true = some d.amount (each 0 d (omega arith)).some in
    let rest : are_ascending (Some d.address) deltas ≡ true = ascends (Some d.address) deltas sorted.0 sorted.1 (λ k e low. each (suc k) e (omega (arith, low))) in
    (λ i. (one i && comes last after i) && rest i)
  where
    some : (n : ℕ) → 1 ≤ n → leb 1 n ≡ true
    some n low = grind (arith, low)

    comes : (l : Option Address) → AllAfter l (d.address ∷ addresses_of deltas) → comes_after l d.address ≡ true
    comes None h = refl
    comes (Some a) h = ap is_lt h.0

pub deltas_are_ascending : (deltas : List Delta) → AreDeltas deltas → are_ascending None deltas ≡ true
unfolding addresses_of
deltas_are_ascending deltas h = ascends None deltas tt h.ascend h.each
