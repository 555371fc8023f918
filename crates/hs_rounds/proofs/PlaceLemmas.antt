-- Places in their order, and what stands at them.
use Rattle.std.proofs.Common.{◌≡◌, ℕ, suc, [], ◌∷◌, length, drop, ◌<◌, true, false, None, ap, sym, ◌∙◌, refl, arith}
use Rattle.std.proofs.lemmas.Cmp.{nat_cmp_total, tied_itself}
use Rattle.std.proofs.lemmas.Map.Entries.{lookup-filter-keys}
use Rattle.std.proofs.lemmas.Map.Lookups.{exact_unsigned}
use Rattle.std.specs.BTreeMap.{is_at}
use Rattle.std.specs.BTreeMap.Range.{IsLeBy}
use Rattle.std.specs.Cmp.{ranks}
use Rattle.std.specs.Map.{keys_of}
use Rattle.std.specs.Ordering.{is_eq, is_gt, nat_cmp, ordering_then}
use Rattle.std.specs.Prelude.{All, not}
use Rattle.std.specs.declared.cmp.Ordering.{Ordering}
use Rattle.std.specs.declared.cmp.Ordering.TheVariants.{Less, Equal, Greater}
use Rattle.hs_rounds.specs.declared.place.Place.{Place}
use Rattle.hs_rounds.specs.Rounds.{GotList, body_at, from_round, is_before, place_cmp}
use Rattle.hs_rounds.specs.Steps.{starts_before}

first_equal : (o p : Ordering) → ordering_then o p ≡ Equal → o ≡ Equal
first_equal Less p e = cc
first_equal Equal p e = refl
first_equal Greater p e = cc

then_equal : (o p : Ordering) → ordering_then o p ≡ Equal → p ≡ Equal
then_equal Less p e = cc
then_equal Equal p e = e
then_equal Greater p e = cc

is_equal : (o : Ordering) → is_eq o ≡ true → o ≡ Equal
is_equal Less e = cc
is_equal Equal e = refl
is_equal Greater e = cc

-- places that are tied are the same
pub same_place : (p q : Place) → is_at (place_cmp p) q ≡ true → p ≡ q
same_place p q e =
    let all : place_cmp p q ≡ Equal = is_equal (place_cmp p q) e in
    let rest : ordering_then (nat_cmp p.round q.round) (nat_cmp p.from q.from) ≡ Equal = then_equal (nat_cmp p.epoch q.epoch) _ all in
    let epochs : p.epoch ≡ q.epoch = exact_unsigned p.epoch q.epoch (first_equal (nat_cmp p.epoch q.epoch) _ all) in
    let rounds : p.round ≡ q.round = exact_unsigned p.round q.round (first_equal (nat_cmp p.round q.round) _ rest) in
    let senders : p.from ≡ q.from = exact_unsigned p.from q.from (then_equal (nat_cmp p.round q.round) _ rest) in
    λ i. record { epoch = epochs i; round = rounds i; from = senders i }

-- a place is tied with itself
pub tied_place : (p : Place) → is_at (place_cmp p) p ≡ true
tied_place p = rw (tied_itself nat_cmp_total p.epoch, tied_itself nat_cmp_total p.round, tied_itself nat_cmp_total p.from) refl

-- what stands at a place that is not before a round stays
pub found_from : (epoch round : ℕ) (gots : GotList) (q : Place) → is_before epoch round q ≡ false → body_at q (from_round epoch round gots) ≡ body_at q gots
found_from epoch round gots q after =
    lookup-filter-keys (is_at (place_cmp q)) (λ k. not (is_before epoch round k)) true (λ k at. sym (ap (λ p. not (is_before epoch round p)) (same_place q k at)) ∙ ap not after) gots

-- and what stands before it is gone
pub gone_before : (epoch round : ℕ) (gots : GotList) (q : Place) → is_before epoch round q ≡ true → body_at q (from_round epoch round gots) ≡ None
gone_before epoch round gots q before =
    lookup-filter-keys (is_at (place_cmp q)) (λ k. not (is_before epoch round k)) false (λ k at. sym (ap (λ p. not (is_before epoch round p)) (same_place q k at)) ∙ ap not before) gots

-- ---- the first in their order

before_less : (epoch round : ℕ) (p q : Place) → is_gt (place_cmp p q) ≡ false → is_before epoch round p ≡ false → is_before epoch round q ≡ false
before_less epoch round p q le after = grind (arith, ranks p.epoch q.epoch, ranks p.round q.round)

-- where the first is not before a round, none is
pub none_before : (epoch round : ℕ) (first : Place) (gots : GotList) → All (IsLeBy place_cmp first) (keys_of gots) → is_before epoch round first ≡ false → from_round epoch round gots ≡ gots
none_before epoch round first [] above after = refl
none_before epoch round first (e ∷ es) above after =
    let here : is_before epoch round e.0 ≡ false = before_less epoch round first e.0 (above 0 e.0 (omega arith)) after in
    rw here (ap (λ rest. e ∷ rest) (none_before epoch round first es (λ k d lt. above (suc k) d (omega (arith, lt))) after))

-- a first that is before a round makes no difference to those that are not
pub without_first : (epoch round : ℕ) (gots : GotList) → starts_before epoch round gots ≡ true → from_round epoch round (drop 1 gots) ≡ from_round epoch round gots
without_first epoch round [] starts = cc
without_first epoch round (e ∷ es) starts = rw starts refl

pub fewer : (epoch round : ℕ) (gots : GotList) → starts_before epoch round gots ≡ true → length (drop 1 gots) < length gots
fewer epoch round [] starts = cc
fewer epoch round (e ∷ es) starts = omega arith
