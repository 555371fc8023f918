-- The log that is chosen is the first of greatest rank.
use Rattle.std.proofs.Common.{◌≡◌, ◌∙◌, ap, sym, subst, ℕ, zero, suc, ◌+◌, ◌-◌, ◌<◌, ◌≤◌, Bool, true, false, not, List, length, map, get_or, Option, Some, None, is_some, refl, arith, drop, take, unwrap_or}
use Rattle.std.proofs.lemmas.List.{get_or-drop, get_or-take, length-drop, length-map, length-take-le}
use Rattle.std.proofs.Math.ListN.{get_or-map}
use Rattle.std.specs.Option.{option_map}
use Rattle.std.specs.Prelude.{slice_index_or}
use Rattle.hs_coldstart.proofs.ChooseLemmas.{IsBelow, IsBest, IsSoFar, chosen_at_end, so_far_more}
use Rattle.hs_coldstart.specs.Choose.{better, choose, is_above, is_up_to}
use Rattle.hs_entry.specs.declared.rank.Rank.{Rank}
use Rattle.hs_entry.specs.Entries.{rank_of}
use Rattle.hs_fold.specs.Opened.{outranks}
use Rattle.hs_fold.specs.Shards.Setting.{Numbered}
use Rattle.hs_limits.specs.declared.shape.Shape.{Shape}
use Rattle.hs_limits.specs.Shape.{peer_of}
use Rattle.hs_peerlog.specs.Views.{Viewing}
use Rattle.hs_taking.proofs.ChoiceLemmas.{chosen_within}
use Rattle.hs_taking.specs.Copies.{IsFirst, IsOf}
use Rattle.hs_taking.specs.Evens.{chosen_peer}

-- the ranks of the views of a shard's peers
abbrev own_ranks : Shape → List (Option Viewing) → ℕ → List (Option Rank)
own_ranks shape views shard = take shape.copies (drop (peer_of shape shard 0) (map (λ view. option_map (λ v. v.rank) view) views))

own_at : (shape : Shape) (views : List (Option Viewing)) (shard copy : ℕ) → copy < shape.copies → get_or (own_ranks shape views shard) copy None ≡ option_map (λ v. v.rank) (slice_index_or views (peer_of shape shard 0 + copy) None)
own_at shape views shard copy low =
    get_or-take shape.copies (drop (peer_of shape shard 0) (map (λ view. option_map (λ v. v.rank) view) views)) copy None low ∙ get_or-drop (peer_of shape shard 0) (map (λ view. option_map (λ v. v.rank) view) views) copy None
    ∙ get_or-map (λ view. option_map (λ v. v.rank) view) views (peer_of shape shard 0 + copy) None

own_long : (shape : Shape) (views : List (Option Viewing)) (shard : ℕ) → peer_of shape shard 0 + shape.copies ≤ length views → length (own_ranks shape views shard) ≡ shape.copies
own_long shape views shard long =
    let d = length-drop (peer_of shape shard 0) (map (λ view. option_map (λ v. v.rank) view) views) in
    let m = length-map views (λ view. option_map (λ v. v.rank) view) in
    length-take-le shape.copies (drop (peer_of shape shard 0) (map (λ view. option_map (λ v. v.rank) view) views)) (omega (arith, d, m, long))

-- the peer that is chosen is one of the shard
pub chosen_home : (shape : Shape) (views : List (Option Viewing)) (shard : ℕ) → 0 < shape.copies → peer_of shape shard 0 + shape.copies ≤ length views → IsOf shape shard (chosen_peer shape views shard)
chosen_home shape views shard some long = by (choose (own_ranks shape views shard)) refl
  where
    at : (o : Option ℕ) → choose (own_ranks shape views shard) ≡ o → unwrap_or o 0 < shape.copies → IsOf shape shard (chosen_peer shape views shard)
    at o is low =
        let e : chosen_peer shape views shard ≡ peer_of shape shard (unwrap_or o 0) = ap (λ x. peer_of shape shard (unwrap_or x 0)) is in
        record { from = omega (arith, e); to = omega (arith, e, low) }

    by : (o : Option ℕ) → choose (own_ranks shape views shard) ≡ o → IsOf shape shard (chosen_peer shape views shard)
    by None is = at None is some
    by (Some copy) is = at (Some copy) is (let w = chosen_within (own_ranks shape views shard) copy is in let l = own_long shape views shard long in omega (arith, w, l))

-- what was found of the first ranks
found : (ranks : List (Option Rank)) (i : ℕ) → (best : Option (ℕ × Rank)) × IsSoFar ranks i best
found ranks zero = (None, λ k low. absurd (omega (arith, low)))
found ranks (suc i) =
    let one = found ranks i in
    let next : i + 1 ≡ suc i = omega arith in
    (better one.0 i (get_or ranks i None), subst (λ n. IsSoFar ranks n (better one.0 i (get_or ranks i None))) next (so_far_more ranks i one.0 one.1))

some_rank : (x y : Rank) → Some x ≡ Some y → x ≡ y
some_rank x y e = cc e

none_rank : (x : Rank) → None ≡ Some x → ⊥
none_rank x e = cc e

list_of_some : (o : Option Numbered) → is_some o ≡ true → (list : Numbered) × (o ≡ Some list)
list_of_some None e = cc e
list_of_some (Some list) e = (list, refl)

module _ (shape : Shape) (views : List (Option Viewing)) (shard peer : ℕ) (logs : ℕ → Option Numbered) (is : peer ≡ chosen_peer shape views shard) (home : IsOf shape shard peer) (long : peer_of shape shard 0 + shape.copies ≤ length views)
    (ranked : (other : ℕ) → IsOf shape shard other → (list : Numbered) → logs other ≡ Some list → option_map (λ v. v.rank) (slice_index_or views other None) ≡ Some (rank_of list)) (own : (rank : Rank) → option_map (λ v. v.rank) (slice_index_or views peer None) ≡ Some rank → is_some (logs peer) ≡ true) where
  abbrev first : ℕ
  first = peer_of shape shard 0

  -- the place of a peer among those of its shard
  rank_at : (other : ℕ) → IsOf shape shard other → get_or (own_ranks shape views shard) (other - first) None ≡ option_map (λ v. v.rank) (slice_index_or views other None)
  rank_at other of =
      let f = of.from in
      let t = of.to in
      let back : first + (other - first) ≡ other = omega (arith, f) in
      own_at shape views shard (other - first) (omega (arith, f, t)) ∙ ap (λ n. option_map (λ v. v.rank) (slice_index_or views n None)) back

  list_at : (other : ℕ) → IsOf shape shard other → (list : Numbered) → logs other ≡ Some list → get_or (own_ranks shape views shard) (other - first) None ≡ Some (rank_of list)
  list_at other of list e = rank_at other of ∙ ranked other of list e

  place_low : (other : ℕ) → IsOf shape shard other → other - first < length (own_ranks shape views shard)
  place_low other of = let l = own_long shape views shard long in let f = of.from in let t = of.to in omega (arith, l, f, t)

  -- where no log is there
  none_first : ((k : ℕ) → k < length (own_ranks shape views shard) → get_or (own_ranks shape views shard) k None ≡ None) → IsFirst shape logs shard peer
  none_first none = record {
    home = home;
    some = λ other of some. let l = list_of_some (logs other) some in absurd (nothing other of l.0 l.1);
    best = λ other of list taken e t. absurd (nothing other of list e);
    first = λ other of less list taken e t. absurd (nothing other of list e);
  }
    where
      nothing : (other : ℕ) → IsOf shape shard other → (list : Numbered) → logs other ≡ Some list → ⊥
      nothing other of list e = none_rank (rank_of list) (sym (none (other - first) (place_low other of)) ∙ list_at other of list e)

  best_first : (best : ℕ × Rank) → IsBest (own_ranks shape views shard) (length (own_ranks shape views shard)) best → choose (own_ranks shape views shard) ≡ Some best.0 → IsFirst shape logs shard peer
  best_first best h chosen = record {
    home = home;
    some = λ other of some. own best.1 (sym (rank_at peer home) ∙ there);
    best = λ other of list taken e t. not_above (rank_of list) (rank_of taken) (own_rank taken t) (subst (λ o. is_up_to best.1 o ≡ true) (list_at other of list e) (h.greatest (other - first) (place_low other of)));
    first = λ other of less list taken e t.
        let f = of.from in
        let low : other - first < best.0 = let p = place in omega (arith, f, p, less) in
        subst (λ r. is_above r (rank_of list) ≡ true) (own_rank taken t) (below (get_or (own_ranks shape views shard) (other - first) None) (rank_of list) (list_at other of list e) (h.first (other - first) low));
  }
    where
      place : peer - first ≡ best.0
      place =
          let at : peer ≡ first + best.0 = is ∙ ap (λ o. peer_of shape shard (unwrap_or o 0)) chosen ∙ same in
          omega (arith, at)
        where
          same : peer_of shape shard best.0 ≡ first + best.0
          same = omega arith

      there : get_or (own_ranks shape views shard) (peer - first) None ≡ Some best.1
      there = ap (λ n. get_or (own_ranks shape views shard) n None) place ∙ h.there

      own_rank : (taken : Numbered) → logs peer ≡ Some taken → best.1 ≡ rank_of taken
      own_rank taken t = some_rank best.1 (rank_of taken) (sym there ∙ list_at peer home taken t)

      negated : (b : Bool) → not b ≡ true → b ≡ false
      negated true e = cc e
      negated false e = refl

      not_above : (r s : Rank) → best.1 ≡ s → is_up_to best.1 (Some r) ≡ true → outranks r s ≡ false
      not_above r s same up = subst (λ x. outranks r x ≡ false) same (negated (is_above r best.1) up)

      below : (o : Option Rank) (r : Rank) → o ≡ Some r → IsBelow best.1 o → is_above best.1 r ≡ true
      below o r e b = subst (λ x. IsBelow best.1 x) e b

  pub is_first : IsFirst shape logs shard peer
  is_first =
      let f = found (own_ranks shape views shard) (length (own_ranks shape views shard)) in
      go f.0 f.1 (chosen_at_end (own_ranks shape views shard) (length (own_ranks shape views shard)) f.0 refl f.1)
    where
      go : (best : Option (ℕ × Rank)) → IsSoFar (own_ranks shape views shard) (length (own_ranks shape views shard)) best → option_map (λ x. x.0) best ≡ choose (own_ranks shape views shard) → IsFirst shape logs shard peer
      go None h e = none_first h
      go (Some best) h e = best_first best h (sym e)
