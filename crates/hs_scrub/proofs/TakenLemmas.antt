-- Whose log is taken of some views.
use Rattle.std.proofs.Common.{◌≡◌, ◌∙◌, ap, sym, subst, ℕ, zero, suc, ◌+◌, ◌-◌, ◌<◌, ◌≤◌, ◌&&◌, Bool, true, false, not, List, [], ◌∷◌, take, drop, map, length, Option, Some, None, is_some, refl, arith}
use Rattle.std.proofs.lemmas.Bool.Decides.{nat_tests}
use Rattle.std.proofs.lemmas.List.Quantifiers.{position-Some}
use Rattle.std.specs.List.{list_all, list_any}
use Rattle.std.specs.Option.{option_map}
use Rattle.std.specs.Prelude.{slice_index_or}
use Rattle.hs_coldstart.specs.Choose.{choose, is_above, is_greatest, is_up_to}
use Rattle.hs_entry.specs.declared.rank.Rank.{Rank}
use Rattle.hs_peerlog.specs.Views.{Viewing}
use Rattle.hs_scrub.specs.Steps.{IsGreatest, view_at}

abbrev rank_in : Option Viewing → Option Rank
rank_in view = option_map (λ v. v.rank) view

-- the rank at a place of a part
front : (n k : ℕ) (views : List (Option Viewing)) → k < n → slice_index_or (take n (map rank_in views)) k None ≡ rank_in (slice_index_or views k None)
front zero k views low = absurd (omega (arith, low))
front (suc n) k [] low = refl
front (suc n) zero (v ∷ views) low = refl
front (suc n) (suc k) (v ∷ views) low = front n k views (omega (arith, low))

part : (n from k : ℕ) (views : List (Option Viewing)) → k < n → slice_index_or (take n (drop from (map rank_in views))) k None ≡ rank_in (slice_index_or views (from + k) None)
part n zero k views low = let e : k ≡ 0 + k = omega arith in front n k views low ∙ ap (λ j. rank_in (slice_index_or views j None)) e
part zero (suc from) k views low = absurd (omega (arith, low))
part (suc n) (suc from) k [] low = refl
part (suc n) (suc from) k (v ∷ views) low =
    let e : suc (from + k) ≡ suc from + k = omega arith in
    part (suc n) from k views low ∙ ap (λ j. rank_in (slice_index_or (v ∷ views) j None)) e

-- each of some passes a test that all do
all_at : (test : Option Rank → Bool) (xs : List (Option Rank)) (k : ℕ) → list_all test xs ≡ true → k < length xs → test (slice_index_or xs k None) ≡ true
all_at test [] k h low = absurd (omega (arith, low))
all_at test (x ∷ xs) zero h low = (both (test x) (list_all test xs) h).0
  where
    both : (a b : Bool) → (a && b) ≡ true → (a ≡ true) × (b ≡ true)
    both true b h = (refl, h)
    both false b h = cc h
all_at test (x ∷ xs) (suc k) h low = all_at test xs k ((both (test x) (list_all test xs) h).1) (omega (arith, low))
  where
    both : (a b : Bool) → (a && b) ≡ true → (a ≡ true) × (b ≡ true)
    both true b h = (refl, h)
    both false b h = cc h

not_so : (b : Bool) → not b ≡ true → b ≡ false
not_so true h = cc h
not_so false h = refl

-- of two ranks of which none is above the other both are one
same_rank : (a b : Rank) → is_above a b ≡ false → is_above b a ≡ false → a ≡ b
same_rank a b one two =
    let v : a.view ≡ b.view = grind (arith, nat_tests, one, two) in
    let n : a.number ≡ b.number = grind (arith, nat_tests, one, two) in
    λ i. record { view = v i; number = n i }

-- the first of the greatest ranks
pub record Chosen (ranks : List (Option Rank)) (copy : ℕ) : Type 0 where
  pub within : copy < length ranks
  pub rank : Rank
  pub there : slice_index_or ranks copy None ≡ Some rank
  pub greatest : (k : ℕ) (other : Rank) → k < length ranks → slice_index_or ranks k None ≡ Some other → is_above other rank ≡ false
  pub lowest : (k : ℕ) (other : Rank) → k < copy → slice_index_or ranks k None ≡ Some other → is_above rank other ≡ true

pub chosen_first : (ranks : List (Option Rank)) (copy : ℕ) → choose ranks ≡ Some copy → Chosen ranks copy
chosen_first ranks copy is = go (slice_index_or ranks copy None) refl passes.1
  where
    passes : (copy < length ranks) × (is_greatest ranks (slice_index_or ranks copy None) ≡ true) × ((k : ℕ) → k < copy → is_greatest ranks (slice_index_or ranks k None) ≡ false)
    passes = position-Some (is_greatest ranks) ranks copy None is

    false_is_not : false ≡ true → ⊥
    false_is_not e = cc e

    go : (o : Option Rank) → slice_index_or ranks copy None ≡ o → is_greatest ranks (slice_index_or ranks copy None) ≡ true → Chosen ranks copy
    go None e h = absurd (false_is_not (sym (ap (λ o. is_greatest ranks o) e) ∙ h))
    go (Some rank) e h =
        let all : list_all (is_up_to rank) ranks ≡ true = sym (ap (λ o. is_greatest ranks o) e) ∙ h in
        record {
          within = passes.0;
          rank = rank;
          there = e;
          greatest = λ k other low is. not_so (is_above other rank) (sym (ap (λ o. is_up_to rank o) is) ∙ all_at (is_up_to rank) ranks k all low);
          lowest = λ k other low is. above k other low is (is_above rank other) refl;
        }
      where
        above : (k : ℕ) (other : Rank) → k < copy → slice_index_or ranks k None ≡ Some other → (b : Bool) → is_above rank other ≡ b → is_above rank other ≡ true
        above k other low is true e' = e'
        above k other low is false e' =
            let within = passes.0 in
            let up : is_above other rank ≡ false = not_so (is_above other rank) (sym (ap (λ o. is_up_to rank o) is) ∙ all_at (is_up_to rank) ranks k (sym (ap (λ o. is_greatest ranks o) e) ∙ h) (omega (arith, low, within))) in
            let same : Some rank ≡ Some other = ap (λ r. Some r) (same_rank rank other e' up) in
            absurd (false_is_not (sym (passes.2 k low) ∙ ap (λ o. is_greatest ranks o) (is ∙ sym same) ∙ sym (ap (λ o. is_greatest ranks o) e) ∙ h))

-- ---- of views

rank_some : (v : Option Viewing) (rank : Rank) → rank_in v ≡ Some rank → (view : Viewing) × (v ≡ Some view) × (view.rank ≡ rank)
rank_some None rank is = cc is
rank_some (Some view) rank is = (view, refl, some_is view.rank rank is)
  where
    some_is : (a b : Rank) → Some a ≡ Some b → a ≡ b
    some_is a b e = cc e

part_long : {A B : Type 0} (f : A → B) (n from : ℕ) (xs : List A) → from + n ≤ length xs → length (take n (drop from (map f xs))) ≡ n
part_long f zero from xs h = refl
part_long f (suc n) from [] h = absurd (omega (arith, h))
part_long f (suc n) zero (x ∷ xs) h = let e = part_long f n 0 xs (omega (arith, h)) in omega (arith, e)
part_long f (suc n) (suc from) (x ∷ xs) h = part_long f (suc n) from xs (omega (arith, h))

pub taken_is : (views : List (Option Viewing)) (ranks own : List (Option Rank)) (from to copy : ℕ) → from ≤ to → to ≤ length views → ranks ≡ map rank_in views → own ≡ take (to - from) (drop from ranks)
    → choose own ≡ Some copy → (view : Viewing) × IsGreatest views from to (from + copy) view
taken_is views ranks own from to copy order within ranked parted is = (
  its.0,
  record {
    low = omega arith;
    high = omega (arith, order, copy_low);
    own = its.1;
    greatest = λ other v low high e.
        let k : from + (other - from) ≡ other = omega (arith, low) in
        subst (λ r. is_above v.rank r ≡ false) (sym its.2) (c.greatest (other - from) v.rank (omega (arith, low, high, long))
        (at (other - from) (omega (arith, low, high)) ∙ ap (λ j. rank_in (view_at views j)) k ∙ ap rank_in e));
    lowest = λ other v low less e.
        let k : from + (other - from) ≡ other = omega (arith, low) in
        subst (λ r. is_above r v.rank ≡ true) (sym its.2) (c.lowest (other - from) v.rank (omega (arith, low, less))
        (at (other - from) (omega (arith, low, less, copy_low)) ∙ ap (λ j. rank_in (view_at views j)) k ∙ ap rank_in e));
  },
)
  where
    c : Chosen own copy
    c = chosen_first own copy is

    own_is : own ≡ take (to - from) (drop from (map rank_in views))
    own_is = parted ∙ ap (λ rs. take (to - from) (drop from rs)) ranked

    long : length own ≡ to - from
    long = ap (λ (rs : List (Option Rank)). length rs) own_is ∙ part_long rank_in (to - from) from views (omega (arith, order, within))

    copy_low : copy < to - from
    copy_low = let w = c.within in omega (arith, w, long)

    at : (k : ℕ) → k < to - from → slice_index_or own k None ≡ rank_in (view_at views (from + k))
    at k low = ap (λ rs. slice_index_or rs k None) own_is ∙ part (to - from) from k views low

    its : (view : Viewing) × (view_at views (from + copy) ≡ Some view) × (view.rank ≡ c.rank)
    its = rank_some (view_at views (from + copy)) c.rank (sym (at copy copy_low) ∙ c.there)

-- none has a view where none is chosen
no_rank : (xs : List (Option Rank)) (k : ℕ) → list_any (λ x. is_some x) xs ≡ false → k < length xs → slice_index_or xs k None ≡ None
no_rank [] k h low = refl
no_rank (None ∷ xs) zero h low = refl
no_rank (None ∷ xs) (suc k) h low = no_rank xs k h (omega (arith, low))
no_rank (Some x ∷ xs) k h low = cc h

rank_none : (v : Option Viewing) → rank_in v ≡ None → v ≡ None
rank_none None h = refl
rank_none (Some view) h = cc h

pub none_is : (views : List (Option Viewing)) (ranks own : List (Option Rank)) (from to : ℕ) → from ≤ to → to ≤ length views → ranks ≡ map rank_in views → own ≡ take (to - from) (drop from ranks)
    → list_any (λ x. is_some x) own ≡ false → (peer : ℕ) → from ≤ peer → peer < to → view_at views peer ≡ None
none_is views ranks own from to order within ranked parted none peer low high =
    let own_is : own ≡ take (to - from) (drop from (map rank_in views)) = parted ∙ ap (λ rs. take (to - from) (drop from rs)) ranked in
    let long : length own ≡ to - from = ap (λ (rs : List (Option Rank)). length rs) own_is ∙ part_long rank_in (to - from) from views (omega (arith, order, within)) in
    let k : from + (peer - from) ≡ peer = omega (arith, low) in
    rank_none (view_at views peer)
    (ap (λ j. rank_in (view_at views j)) (sym k) ∙ sym (ap (λ rs. slice_index_or rs (peer - from) None) own_is ∙ part (to - from) from (peer - from) views (omega (arith, low, high))) ∙ no_rank own (peer - from) none (omega (arith, low, high, long)))
