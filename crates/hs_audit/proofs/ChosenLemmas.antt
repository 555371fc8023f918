-- The log that is chosen by its rank has the list that counts.
use Rattle.std.proofs.Common.{◌≡◌, ◌∙◌, ◌+◌, ◌<◌, ◌⊎◌, inl, inr, ◌==◌, ◌&&◌, ◌||◌, ℕ, zero, suc, List, [], ◌∷◌, Bool, true, false, not, refl, sym, ap, subst, length, arith, Option, None, Some, nat_lt, get_or}
use Rattle.std.proofs.lemmas.Bool.Decides.{nat_tests}
use Rattle.std.specs.Prelude.{unwrap_or}
use Rattle.hs_coldstart.proofs.ChooseLemmas.{IsBelow, IsBest, IsSoFar, chosen_at_end, so_far_more}
use Rattle.hs_coldstart.specs.Choose.{better, choose, is_above, is_up_to}
use Rattle.hs_entry.specs.declared.rank.Rank.{Rank}
use Rattle.hs_entry.specs.Entries.{rank_of}
use Rattle.hs_fold.specs.Opened.{chosen, outranks}
use Rattle.hs_fold.specs.Shards.Setting.{Numbered}
use Rattle.hs_peerlog.specs.Lists.{IsNumbered}
use Rattle.hs_taking.proofs.ChosenLemmas.{chosen_at, none_below}
use Rattle.hs_taking.proofs.LoadLemmas.{count_is}

-- ---- ranks

rank_none : rank_of [] ≡ record { view = 0; number = 0 }
unfolding rank_of
rank_none = refl

-- a rank that is not above the empty list's is that
is_least : (rank : Rank) → outranks rank (rank_of []) ≡ false → rank.number ≡ 0
is_least rank h = low rank.view rank.number (sym (ap (λ (r : Rank). outranks rank r) rank_none) ∙ h)
  where
    low : (view number : ℕ) → (nat_lt 0 view || (view == 0 && nat_lt 0 number)) ≡ false → number ≡ 0
    low view number h = grind (arith, nat_tests)

-- ---- the place of greatest rank

so_far : (ranks : List (Option Rank)) (i : ℕ) → (best : Option (ℕ × Rank)) × IsSoFar ranks i best
so_far ranks zero = (None, λ k low. absurd (omega (arith, low)))
so_far ranks (suc i) =
    let h = so_far ranks i in
    let e : i + 1 ≡ suc i = omega arith in
    (better h.0 i (get_or ranks i None), subst (λ n. IsSoFar ranks n (better h.0 i (get_or ranks i None))) e (so_far_more ranks i h.0 h.1))

-- the rank of a list, where there is one, and else the empty list
abbrev pub Ranks : Option Rank → Numbered → Type 0
Ranks None list = list ≡ []
Ranks (Some rank) list = (rank_of list ≡ rank) × IsNumbered list

some_is : (x y : Rank) → Some x ≡ Some y → x ≡ y
some_is x y e = cc e

some_is_not : (x : Rank) → None ≡ Some x → ⊥
some_is_not x e = grind arith

module _ (ranks : List (Option Rank)) (lists : List Numbered) (long : length ranks ≡ length lists) (each : (i : ℕ) → i < length lists → Ranks (get_or ranks i None) (get_or lists i [])) where
  best_counts : (best : ℕ × Rank) → IsBest ranks (length ranks) best → chosen lists ≡ get_or lists best.0 []
  best_counts best h = chosen_at lists best.0 within before up
    where
      within : best.0 < length lists
      within = let w = h.within in omega (arith, w, long)

      here : (rank_of (get_or lists best.0 []) ≡ best.1) × IsNumbered (get_or lists best.0 [])
      here = subst (λ o. Ranks o (get_or lists best.0 [])) h.there (each best.0 within)

      empty : outranks (rank_of (get_or lists best.0 [])) (rank_of []) ≡ false → get_or lists best.0 [] ≡ []
      empty e =
          let n = count_is (get_or lists best.0 []) here.1 in
          let z = is_least (rank_of (get_or lists best.0 [])) e in
          none_of (get_or lists best.0 []) (sym n ∙ z)
        where
          none_of : (list : Numbered) → length list ≡ 0 → list ≡ []
          none_of [] e = refl
          none_of (x ∷ xs) e = absurd (omega (arith, e))

      up_by : (i : ℕ) (o : Option Rank) → Ranks o (get_or lists i []) → is_up_to best.1 o ≡ true → outranks (rank_of (get_or lists i [])) (rank_of (get_or lists best.0 [])) ≡ false
      up_by i None r u = ap (λ (l : Numbered). outranks (rank_of l) (rank_of (get_or lists best.0 []))) r ∙ none_below (rank_of (get_or lists best.0 []))
      up_by i (Some rank) r u =
          ap (λ (x : Rank). outranks x (rank_of (get_or lists best.0 []))) r.0 ∙ ap (λ (x : Rank). outranks rank x) here.0 ∙ no_more (is_above rank best.1) u
        where
          no_more : (b : Bool) → not b ≡ true → b ≡ false
          no_more true e = sym e
          no_more false e = refl

      up : (i : ℕ) → i < length lists → outranks (rank_of (get_or lists i [])) (rank_of (get_or lists best.0 [])) ≡ false
      up i low = up_by i (get_or ranks i None) (each i low) (h.greatest i (omega (arith, low, long)))

      empty_by : (b : Bool) → outranks (rank_of (get_or lists best.0 [])) (rank_of []) ≡ b → (outranks (rank_of (get_or lists best.0 [])) (rank_of []) ≡ true) ⊎ ([] ≡ get_or lists best.0 [])
      empty_by true e = inl e
      empty_by false e = inr (sym (empty e))

      before_by : (i : ℕ) (o : Option Rank) → Ranks o (get_or lists i []) → IsBelow best.1 o → (outranks (rank_of (get_or lists best.0 [])) (rank_of (get_or lists i [])) ≡ true) ⊎ (get_or lists i [] ≡ get_or lists best.0 [])
      before_by i None r below = subst (λ (l : Numbered). (outranks (rank_of (get_or lists best.0 [])) (rank_of l) ≡ true) ⊎ (l ≡ get_or lists best.0 [])) (sym r) (empty_by (outranks (rank_of (get_or lists best.0 [])) (rank_of [])) refl)
      before_by i (Some rank) r below = inl (ap (λ (x : Rank). outranks x (rank_of (get_or lists i []))) here.0 ∙ ap (λ (x : Rank). outranks best.1 x) r.0 ∙ below)

      before : (i : ℕ) → i < best.0 → (outranks (rank_of (get_or lists best.0 [])) (rank_of (get_or lists i [])) ≡ true) ⊎ (get_or lists i [] ≡ get_or lists best.0 [])
      before i low = before_by i (get_or ranks i None) (each i (omega (arith, low, within))) (h.first i low)

-- the place that is chosen of these ranks has the list that counts, where it has a rank
pub chosen_counts : (ranks : List (Option Rank)) (lists : List Numbered) → length ranks ≡ length lists → ((i : ℕ) → i < length lists → Ranks (get_or ranks i None) (get_or lists i []))
    → (k : ℕ) (rank : Rank) → k ≡ unwrap_or (choose ranks) 0 → k < length lists → get_or ranks k None ≡ Some rank → chosen lists ≡ get_or lists k []
chosen_counts ranks lists long each k rank is low there = go (so_far ranks (length ranks)).0 (so_far ranks (length ranks)).1
  where
    go : (best : Option (ℕ × Rank)) → IsSoFar ranks (length ranks) best → chosen lists ≡ get_or lists k []
    go None h = absurd (some_is_not rank (sym (h k (omega (arith, low, long))) ∙ there))
    go (Some best) h =
        let place : best.0 ≡ k = ap (λ (o : Option ℕ). unwrap_or o 0) (chosen_at_end ranks (length ranks) (Some best) refl h) ∙ sym is in
        best_counts ranks lists long each best h ∙ ap (λ n. get_or lists n []) place

-- where it has none, there is none
pub none_ranked : (ranks : List (Option Rank)) (k : ℕ) → k ≡ unwrap_or (choose ranks) 0 → get_or ranks k None ≡ None → (i : ℕ) → i < length ranks → get_or ranks i None ≡ None
none_ranked ranks k is none = go (so_far ranks (length ranks)).0 (so_far ranks (length ranks)).1
  where
    go : (best : Option (ℕ × Rank)) → IsSoFar ranks (length ranks) best → (i : ℕ) → i < length ranks → get_or ranks i None ≡ None
    go None h i low = h i low
    go (Some best) h i low =
        let place : best.0 ≡ k = ap (λ (o : Option ℕ). unwrap_or o 0) (chosen_at_end ranks (length ranks) (Some best) refl h) ∙ sym is in
        absurd (some_is_not best.1 (sym none ∙ ap (λ n. get_or ranks n None) (sym place) ∙ h.there))
