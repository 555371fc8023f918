-- How often places were counted, after a change at one of them.
use Rattle.std.proofs.Common.{◌≡◌, ◌∙◌, sym, ap, ℕ, ◌+◌, Bool, true, false, cond, List, Option, refl, arith}
use Rattle.std.specs.BTreeMap.{is_at}
use Rattle.std.specs.Map.{lookup}
use Rattle.std.specs.Option.{option_map_or}
use Rattle.hs_replica.specs.Counting.{Differs, count_at, once}
use Rattle.hs_rounds.specs.declared.place.Place.{Place}
use Rattle.hs_rounds.specs.Rounds.{place_cmp}
use Rattle.hs_rounds.proofs.PlaceLemmas.{same_place}

abbrev pub number_in : Option ℕ → ℕ
number_in o = option_map_or (λ n. n) o 0

abbrev weight : Bool → ℕ
weight b = cond b 1 0

here : (place other : Place) (found : Option ℕ) (old new : List (Place × ℕ)) → Differs place found old new → is_at (place_cmp place) other ≡ true → count_at new other ≡ number_in found
here place other found old new d at = ap number_in (d other ∙ ap (λ b. cond b found (lookup (is_at (place_cmp other)) old)) at)

elsewhere : (place other : Place) (found : Option ℕ) (old new : List (Place × ℕ)) → Differs place found old new → is_at (place_cmp place) other ≡ false → count_at new other ≡ count_at old other
elsewhere place other found old new d at = ap number_in (d other ∙ ap (λ b. cond b found (lookup (is_at (place_cmp other)) old)) at)

more_at : (place other : Place) (found : Option ℕ) (old new : List (Place × ℕ)) → Differs place found old new → number_in found ≡ 1 + count_at old place
    → (b : Bool) → is_at (place_cmp place) other ≡ b → count_at new other ≡ once place other + count_at old other
more_at place other found old new d n true at =
    let same : count_at old place ≡ count_at old other = ap (count_at old) (same_place place other at) in
    let one : once place other ≡ 1 = ap weight at in
    omega (arith, here place other found old new d at, n, same, one)
more_at place other found old new d n false at =
    let none : once place other ≡ 0 = ap weight at in
    omega (arith, elsewhere place other found old new d at, none)

-- once more
pub counted_more : (place : Place) (found : Option ℕ) (old new : List (Place × ℕ)) → Differs place found old new → number_in found ≡ 1 + count_at old place
    → (other : Place) → count_at new other ≡ once place other + count_at old other
counted_more place found old new d n other = more_at place other found old new d n (is_at (place_cmp place) other) refl

less_at : (place other : Place) (found : Option ℕ) (old new : List (Place × ℕ)) → Differs place found old new → number_in found + 1 ≡ count_at old place
    → (b : Bool) → is_at (place_cmp place) other ≡ b → count_at old other ≡ once place other + count_at new other
less_at place other found old new d n true at =
    let same : count_at old place ≡ count_at old other = ap (count_at old) (same_place place other at) in
    let one : once place other ≡ 1 = ap weight at in
    omega (arith, here place other found old new d at, n, same, one)
less_at place other found old new d n false at =
    let none : once place other ≡ 0 = ap weight at in
    omega (arith, elsewhere place other found old new d at, none)

-- once less
pub counted_less : (place : Place) (found : Option ℕ) (old new : List (Place × ℕ)) → Differs place found old new → number_in found + 1 ≡ count_at old place
    → (other : Place) → count_at old other ≡ once place other + count_at new other
counted_less place found old new d n other = less_at place other found old new d n (is_at (place_cmp place) other) refl
