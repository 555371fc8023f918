-- Which list counts of those of a shard, where each is its own or a front of the taken one.
use Rattle.std.proofs.Common.{◌≡◌, ◌∙◌, ◌⊎◌, ap, sym, subst, inl, inr, ℕ, zero, suc, ◌+◌, ◌*◌, ◌-◌, ◌<◌, ◌≤◌, ◌==◌, ◌&&◌, ◌||◌, Bool, true, false, cond, List, [], ◌∷◌, drop, get_or, length, nat_lt, take, Option, Some, None, refl, arith, unwrap_or}
use Rattle.std.proofs.lemmas.Bool.{false≢true}
use Rattle.std.proofs.lemmas.Bool.Decides.{nat_tests}
use Rattle.std.proofs.lemmas.List.{get_or-drop, get_or-take, length-drop, length-take-le}
use Rattle.std.specs.Prelude.{slice_index_or}
use Rattle.hs_entry.specs.declared.rank.Rank.{Rank}
use Rattle.hs_entry.specs.Entries.{rank_of}
use Rattle.hs_fold.specs.Opened.{chosen, outranks}
use Rattle.hs_fold.specs.Prefix.{IsNumbered}
use Rattle.hs_fold.specs.Shards.Setting.{Numbered}
use Rattle.hs_fold.specs.Shards.Sound.{HasRisingViews}
use Rattle.hs_limits.specs.declared.shape.Shape.{Shape}
use Rattle.hs_limits.specs.Shape.{peer_of}
use Rattle.hs_peerlog.specs.Images.{IsAny}
use Rattle.hs_taking.proofs.ChoiceLemmas.{shard_within}
use Rattle.hs_taking.proofs.GreatestLemmas.{not_above_back, not_above_itself}
use Rattle.hs_taking.proofs.RankLemmas.{front_ranks, taken_front}
use Rattle.hs_taking.specs.Copies.{IsFirst, IsOf, IsOwnOrFront, fronts}

-- ---- the list at a place counts

-- no list is below the empty one
pub none_below : (rank : Rank) → outranks (rank_of []) rank ≡ false
unfolding rank_of
none_below rank = low rank.view rank.number
  where
    low : (view number : ℕ) → (nat_lt view 0 || (0 == view && nat_lt number 0)) ≡ false
    low view number = grind (arith, nat_tests)

-- all are up to a rank
chosen_up_to : (lists : List Numbered) (rank : Rank) → ((i : ℕ) → i < length lists → outranks (rank_of (get_or lists i [])) rank ≡ false) → outranks (rank_of (chosen lists)) rank ≡ false
chosen_up_to [] rank h = none_below rank
chosen_up_to (list ∷ lists) rank h = go (outranks (rank_of (chosen lists)) (rank_of list)) (chosen_up_to lists rank (λ i low. h (suc i) (omega (arith, low))))
  where
    go : (b : Bool) → outranks (rank_of (chosen lists)) rank ≡ false → outranks (rank_of (cond b (chosen lists) list)) rank ≡ false
    go true ih = ih
    go false ih = h 0 (omega arith)

-- none is above it, and those before it are below it, or equal
pub chosen_at : (lists : List Numbered) (k : ℕ) → k < length lists
    → ((i : ℕ) → i < k → (outranks (rank_of (get_or lists k [])) (rank_of (get_or lists i [])) ≡ true) ⊎ (get_or lists i [] ≡ get_or lists k []))
    → ((i : ℕ) → i < length lists → outranks (rank_of (get_or lists i [])) (rank_of (get_or lists k [])) ≡ false) → chosen lists ≡ get_or lists k []
chosen_at [] k low before up = absurd (omega (arith, low))
chosen_at (list ∷ lists) zero low before up = ap (λ b. cond b (chosen lists) list) (chosen_up_to lists (rank_of list) (λ i less. up (suc i) (omega (arith, less))))
chosen_at (list ∷ lists) (suc k) low before up =
    go (before 0 (omega arith)) (outranks (rank_of (chosen lists)) (rank_of list)) refl
    (chosen_at lists k (omega (arith, low)) (λ i less. before (suc i) (omega (arith, less))) (λ i less. up (suc i) (omega (arith, less))))
  where
    go : (outranks (rank_of (get_or lists k [])) (rank_of list) ≡ true) ⊎ (list ≡ get_or lists k []) → (b : Bool) → outranks (rank_of (chosen lists)) (rank_of list) ≡ b → chosen lists ≡ get_or lists k [] → cond b (chosen lists) list ≡ get_or lists k []
    go h true e ih = ih
    go (inl above) false e ih = absurd (false≢true (sym e ∙ ap (λ (l : Numbered). outranks (rank_of l) (rank_of list)) ih ∙ above))
    go (inr same) false e ih = same

-- ---- of a shard

module _ (shape : Shape) (logs : ℕ → Option Numbered) (shard from : ℕ) (taken : Numbered) (lists : List Numbered) (first : IsFirst shape logs shard from) (there : logs from ≡ Some taken) (numbered : IsNumbered taken) (rising : HasRisingViews taken)
    (low : shard < shape.shards) (count : length lists ≡ shape.shards * shape.copies) (own : slice_index_or lists from [] ≡ taken)
    (each : (peer : ℕ) → IsOf shape shard peer → IsOwnOrFront (unwrap_or (logs peer) []) taken (slice_index_or lists peer [])) where
  abbrev start : ℕ
  start = peer_of shape shard 0

  abbrev part : List Numbered
  part = take shape.copies (drop start lists)

  within : start + shape.copies ≤ length lists
  within = let w = shard_within shape shard low in omega (arith, w, count)

  long : length part ≡ shape.copies
  long =
      let d = length-drop start lists in
      let w = within in
      length-take-le shape.copies (drop start lists) (omega (arith, d, w))

  at : (i : ℕ) → i < shape.copies → get_or part i [] ≡ slice_index_or lists (start + i) []
  at i less = get_or-take shape.copies (drop start lists) i [] less ∙ get_or-drop start lists i []

  peer_at : (i : ℕ) → i < shape.copies → IsOf shape shard (start + i)
  peer_at i less = record { from = omega arith; to = omega (arith, less) }

  -- a front
  fronts_rank : (list : Numbered) → IsAny (fronts taken) list → (list ≡ taken) ⊎ (outranks (rank_of taken) (rank_of list) ≡ true)
  fronts_rank list any = subst (λ l. (l ≡ taken) ⊎ (outranks (rank_of taken) (rank_of l) ≡ true)) (sym any.same) (front_ranks taken (take any.at taken) numbered rising (taken_front taken any.at))

  none_front : IsAny (fronts taken) []
  none_front = record { at = 0; same = refl }

  -- none is above the taken one
  up_by : (peer : ℕ) → IsOf shape shard peer → (list : Numbered) → IsOwnOrFront (unwrap_or (logs peer) []) taken list → outranks (rank_of list) (rank_of taken) ≡ false
  up_by peer of list (inl same) = by (logs peer) refl
    where
      by : (o : Option Numbered) → logs peer ≡ o → outranks (rank_of list) (rank_of taken) ≡ false
      by None e = ap (λ (l : Numbered). outranks (rank_of l) (rank_of taken)) (same ∙ ap (λ (o : Option Numbered). unwrap_or o []) e) ∙ none_below (rank_of taken)
      by (Some l) e = ap (λ (x : Numbered). outranks (rank_of x) (rank_of taken)) (same ∙ ap (λ (o : Option Numbered). unwrap_or o []) e) ∙ first.best peer of l taken e there
  up_by peer of list (inr front) = elim (fronts_rank list front) [
    | inl same ↦ ap (λ (x : Numbered). outranks (rank_of x) (rank_of taken)) same ∙ not_above_itself (rank_of taken)
    | inr above ↦ not_above_back (rank_of taken) (rank_of list) above
  ]

  -- one before it is below it, or the same
  before_by : (peer : ℕ) → IsOf shape shard peer → peer < from → (list : Numbered) → IsOwnOrFront (unwrap_or (logs peer) []) taken list → (outranks (rank_of taken) (rank_of list) ≡ true) ⊎ (list ≡ taken)
  before_by peer of less list (inr front) = elim (fronts_rank list front) [ inl same ↦ inr same | inr above ↦ inl above ]
  before_by peer of less list (inl same) = by (logs peer) refl
    where
      by : (o : Option Numbered) → logs peer ≡ o → (outranks (rank_of taken) (rank_of list) ≡ true) ⊎ (list ≡ taken)
      by None e =
          let none : list ≡ [] = same ∙ ap (λ (o : Option Numbered). unwrap_or o []) e in
          elim (fronts_rank list (subst (λ l. IsAny (fronts taken) l) (sym none) none_front)) [ inl is ↦ inr is | inr above ↦ inl above ]
      by (Some l) e = inl (ap (λ (x : Numbered). outranks (rank_of taken) (rank_of x)) (same ∙ ap (λ (o : Option Numbered). unwrap_or o []) e) ∙ first.first peer of less l taken e there)

  place : ℕ
  place = from - start

  place_low : place < shape.copies
  unfolding place
  place_low = let f = first.home.from in let t = first.home.to in omega (arith, f, t)

  place_is : start + place ≡ from
  unfolding place
  place_is = let f = first.home.from in omega (arith, f)

  here : get_or part place [] ≡ taken
  here = at place place_low ∙ ap (λ p. slice_index_or lists p []) place_is ∙ own

  pub stays_chosen : chosen part ≡ taken
  stays_chosen =
      let l = long in
      let p = place_low in
      chosen_at part place (omega (arith, l, p)) before up ∙ here
    where
      before : (i : ℕ) → i < place → (outranks (rank_of (get_or part place [])) (rank_of (get_or part i [])) ≡ true) ⊎ (get_or part i [] ≡ get_or part place [])
      before i less =
          let p = place_low in
          let s = place_is in
          let low_i : i < shape.copies = omega (arith, less, p) in
          let b = before_by (start + i) (peer_at i low_i) (omega (arith, less, s)) (slice_index_or lists (start + i) []) (each (start + i) (peer_at i low_i)) in
          elim b [
            | inl above ↦ inl (ap (λ (x : Numbered). outranks (rank_of x) (rank_of (get_or part i []))) here ∙ ap (λ (x : Numbered). outranks (rank_of taken) (rank_of x)) (at i low_i) ∙ above)
            | inr same ↦ inr (at i low_i ∙ same ∙ sym here)
          ]

      up : (i : ℕ) → i < length part → outranks (rank_of (get_or part i [])) (rank_of (get_or part place [])) ≡ false
      up i less =
          let l = long in
          let low_i : i < shape.copies = omega (arith, less, l) in
          ap (λ (x : Numbered). outranks (rank_of x) (rank_of (get_or part place []))) (at i low_i) ∙ ap (λ (x : Numbered). outranks (rank_of (slice_index_or lists (start + i) [])) (rank_of x)) here
          ∙ up_by (start + i) (peer_at i low_i) (slice_index_or lists (start + i) []) (each (start + i) (peer_at i low_i))
