-- What a search takes off a sum over blocks, and off one over roots.
use Rattle.std.proofs.Common.{◌≡◌, ℕ, ◌+◌, Bool, true, false, not, cond, ◌&&◌, refl, sym, ◌∙◌, arith, map, filter, sum_by}
use Rattle.hs_deletion.specs.Records.{BlockRecord, RootRecord, change_if, is_found, searched, is_released}
use Rattle.hs_deletion.specs.Machine.{Layout, Machine, is_at, is_root_at}
use Rattle.hs_deletion.specs.Steps.{blocks_at, roots_at, recounted_at}
use Rattle.hs_deletion.proofs.SumLemmas.{sum_by_same, sum_by_map, sum_by_filter, sum_by_both, sum_by_parted, sum_by_less}

module _ (layout : Layout) (m : Machine) (g : ℕ) where
  abbrev now : ℕ
  now = (m.states g).epoch

  abbrev count_of : BlockRecord → BlockRecord
  count_of = recounted_at layout g m

  abbrev change : BlockRecord → BlockRecord
  change = change_if (is_at layout g) (λ b. searched now (count_of b))

  -- each new zero block takes off so much as it weighs less for being one; its count weighs nothing
  module _ (w v : BlockRecord → ℕ) (recount : (b : BlockRecord) → w (count_of b) ≡ w b) (less : (b : BlockRecord) → is_found now b ≡ true → w (record b { zero = true }) + v b ≡ w b) where
    abbrev lost : BlockRecord → ℕ
    lost b = cond (is_at layout g b) (cond (is_found now (count_of b)) (v (count_of b)) 0) 0

    one : (b : BlockRecord) → w (change b) + lost b ≡ w b
    one b = outer (is_at layout g b)
      where
        inner : (t : Bool) → is_found now (count_of b) ≡ t → w (cond t (record (count_of b) { zero = true }) (count_of b)) + cond t (v (count_of b)) 0 ≡ w b
        inner true e = less (count_of b) e ∙ recount b
        inner false e = omega (arith, recount b)

        outer : (t : Bool) → w (cond t (searched now (count_of b)) b) + cond t (cond (is_found now (count_of b)) (v (count_of b)) 0) 0 ≡ w b
        outer true = inner (is_found now (count_of b)) refl
        outer false = omega arith

    lost_is : sum_by v (filter (is_found now) (map count_of (blocks_at layout g m.blocks))) ≡ sum_by lost m.blocks
    lost_is =
        sum_by_filter v (is_found now) (map count_of (blocks_at layout g m.blocks))
        ∙ sum_by_map (λ b. cond (is_found now b) (v b) 0) count_of (blocks_at layout g m.blocks)
        ∙ sum_by_filter (λ b. cond (is_found now (count_of b)) (v (count_of b)) 0) (is_at layout g) m.blocks

    pub blocks_lowered : sum_by w (map change m.blocks) + sum_by v (filter (is_found now) (map count_of (blocks_at layout g m.blocks))) ≡ sum_by w m.blocks
    blocks_lowered = omega (arith, sum_by_less w change w lost m.blocks (λ b k. one b), lost_is)

  abbrev gone : RootRecord → Bool
  gone r = is_root_at g r && is_released (m.states g).round now r

  -- each released root takes off what it weighs
  pub roots_lowered : (w v : RootRecord → ℕ) → ((r : RootRecord) → is_released (m.states g).round now r ≡ true → v r ≡ w r)
      → sum_by w (filter (λ r. not (gone r)) m.roots) + sum_by v (filter (is_released (m.states g).round now) (roots_at g m.roots)) ≡ sum_by w m.roots
  roots_lowered w v same = omega (arith, sum_by_parted w gone m.roots, gone_is)
    where
      each : (r : RootRecord) (s t : Bool) → is_released (m.states g).round now r ≡ t → cond s (cond t (v r) 0) 0 ≡ cond (s && t) (w r) 0
      each r false t e = refl
      each r true false e = refl
      each r true true e = same r e

      gone_is : sum_by v (filter (is_released (m.states g).round now) (roots_at g m.roots)) ≡ sum_by w (filter gone m.roots)
      gone_is =
          sum_by_both v (is_root_at g) (is_released (m.states g).round now) m.roots
          ∙ sum_by_same _ _ m.roots (λ r k. each r (is_root_at g r) (is_released (m.states g).round now r) refl)
          ∙ sym (sum_by_filter w gone m.roots)
