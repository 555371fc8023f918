-- While a shard is in a run some shard can go on, and a search lowers what remains.
use Rattle.std.proofs.Common.{◌≡◌, ℕ, zero, suc, ◌+◌, ◌≤◌, ◌<◌, Bool, true, false, not, cond, ◌&&◌, List, [], ◌∷◌, ◌⊎◌, inl, inr, refl, arith, map, filter, length, sum_by}
use Rattle.std.proofs.lemmas.Bool.{cases_lt, cases_eq}
use Rattle.std.proofs.lemmas.List.Sums.{sum_by-cons}
use Rattle.hs_deletion.specs.Records.{BlockRecord, is_found, is_released}
use Rattle.hs_deletion.specs.Machine.{Layout, ShardState, Machine, is_root_at}
use Rattle.hs_deletion.specs.Rounds.{next_round}
use Rattle.hs_deletion.specs.Steps.{blocks_at, roots_at, recounted_at, state_searched, after_search}
use Rattle.hs_deletion.specs.Promises.{CanGoOn, remaining}
use Rattle.hs_deletion.specs.Clocks.{IsIdle, AreClocksRight}
use Rattle.hs_deletion.proofs.SumLemmas.{set_at_self, sum_by_filter}
use Rattle.hs_deletion.proofs.TestLemmas.{found_tells}
use Rattle.hs_deletion.proofs.SearchSums.{blocks_lowered, roots_lowered}
use Rattle.hs_deletion.proofs.ClockLemmas.{beside}

-- ---- some shard can go on

module _ (layout : Layout) (m : Machine) (clocks : AreClocksRight layout m.states) where
  abbrev s : ℕ → ShardState
  s = m.states

  -- the shard that completed the fewest rows, among the first so many
  least_completed : (n : ℕ) → suc n ≤ layout.shards → (g : ℕ) × (g < layout.shards) × ((h : ℕ) → h < suc n → (s g).completed ≤ (s h).completed)
  least_completed zero le = (0, le, λ h l. (let e : h ≡ 0 = omega arith in rw e (omega arith)))
  least_completed (suc n) le =
      let p = least_completed n (omega arith) in
      elim (cases_lt (s (suc n)).completed (s p.0).completed) [
        | inr a ↦ (p.0, p.1, λ h l. elim (cases_eq h (suc n)) [ inl e ↦ rw e a | inr o ↦ p.2 h (omega (arith, l, o)) ])
        | inl a ↦ (suc n, le, λ h l. elim (cases_eq h (suc n)) [ inl e ↦ rw e (omega arith) | inr o ↦ omega (arith, p.2 h (omega (arith, l, o)), a) ])
      ]

  -- all of the first so many have sent the row, or some shard has not
  all_or_one : (n t : ℕ) → n ≤ layout.shards → ((h : ℕ) → h < n → t < (s h).sent) ⊎ ((h : ℕ) × (h < layout.shards) × ((s h).sent ≤ t))
  all_or_one zero t le = inl (λ h l. absurd (omega arith))
  all_or_one (suc n) t le = elim (all_or_one n t (omega arith)) [
    | inr o ↦ inr o
    | inl a ↦ elim (cases_lt t (s n).sent) [
      | inl b ↦ inl (λ h l. elim (cases_eq h n) [ inl e ↦ rw e b | inr o ↦ a h (omega (arith, l, o)) ])
      | inr b ↦ inr (n, omega arith, b)
    ]
  ]

  -- a shard that has not sent the row which the least has yet to complete is idle, and in the epoch before the run
  module _ (h : ℕ) (lh : h < layout.shards) (idle : IsIdle layout s (s h)) where
    lowest : (j : ℕ) → j < layout.shards → (s h).completed ≤ (s j).completed → (s h).epoch ≤ (s j).epoch
    lowest j lj le = let a = (clocks j lj).come h lh in grind (arith, beside layout s clocks h j lh lj, (clocks j lj).phase, idle, le, a)

    above : (k : ℕ) → k < layout.shards → (s k).swept < (s k).epoch → (s h).completed ≤ (s k).completed → (s k).epoch ≡ (s h).epoch + 1
    above k lk run le = let a = (clocks k lk).come h lh in grind (arith, beside layout s clocks h k lh lk, (clocks k lk).phase, idle, le, a, run)

  pub goes_on : (k : ℕ) → k < layout.shards → (s k).swept < (s k).epoch → (g : ℕ) × CanGoOn layout m k g
  goes_on k lk run = go layout.shards refl
    where
      go : (n : ℕ) → layout.shards ≡ n → (g : ℕ) × CanGoOn layout m k g
      go zero e = absurd (omega (arith, e, lk))
      go (suc n) e =
          let p = least_completed n (omega (arith, e)) in
          let low : (h : ℕ) → h < layout.shards → (s p.0).completed ≤ (s h).completed = λ h l. p.2 h (omega (arith, e, l)) in
          elim (all_or_one layout.shards (s p.0).completed (omega arith)) [
            | inl all ↦ (p.0, inl (record { within = p.1; sent = all }))
            | inr o ↦ (
                let idle : IsIdle layout s (s o.0) = elim (clocks o.0 o.1).phase [ inl q ↦ absurd (omega (arith, q.ahead, o.2, low o.0 o.1)) | inr q ↦ q ] in
                let least : (j : ℕ) → j < layout.shards → (s o.0).completed ≤ (s j).completed = λ j l. omega (arith, low j l, o.2, idle.level) in
                (o.0, inr (record { within = o.1; is_swept = idle.is_swept; lowest = λ j lj. lowest o.0 o.1 idle j lj (least j lj) }, above o.0 o.1 idle k lk run (least k lk)))
                )
          ]

-- ---- what remains

length_is : {X : Type 0} (xs : List X) → length xs ≡ sum_by (λ x. 1) xs
length_is [] = refl
length_is (x ∷ xs) = omega (arith, length_is xs, sum_by-cons (λ x. 1) x xs)

module _ (layout : Layout) (m : Machine) (g : ℕ) where
  abbrev now : ℕ
  now = (m.states g).epoch

  abbrev recounts : List BlockRecord
  recounts = map (recounted_at layout g m) (blocks_at layout g m.blocks)

  -- a search leaves so many fewer as the round that it sends tells
  pub remaining_searched : remaining (after_search layout g m) + (((after_search layout g m).states g).rounds (m.states g).sent).total ≡ remaining m
  unfolding remaining
  remaining_searched = rw (set_at_self g (state_searched layout g m) m.states, set_at_self (m.states g).sent (next_round (m.states g).round now recounts (roots_at g m.roots)) (m.states g).rounds) (omega (
    arith,
    blocks_lowered layout m g (λ b. cond (not b.zero) 1 0) (λ b. 1) (λ b. refl) (λ b e. one_less b.zero (found_tells now b e).nonzero),
    roots_lowered layout m g (λ r. 1) (λ r. 1) (λ r e. refl),
    length_is (filter (λ r. not (is_root_at g r && is_released (m.states g).round now r)) m.roots),
    length_is m.roots,
    sum_by_filter (λ b. 1) (is_found now) recounts,
    sum_by_filter (λ r. 1) (is_released (m.states g).round now) (roots_at g m.roots),
  ))
    where
      one_less : (z : Bool) → z ≡ false → 0 + 1 ≡ cond (not z) 1 0
      one_less false e = refl
      one_less true e = cc
