-- What two shards know of each other by their rounds.
use Rattle.std.proofs.Common.{◌≡◌, ℕ, ◌+◌, ◌-◌, ◌≤◌, ◌<◌, ◌⊎◌, inl, inr, ap, arith, []}
use Rattle.std.proofs.lemmas.Bool.{cases_lt}
use Rattle.hs_limits.specs.declared.address.Address.{Address}
use Rattle.hs_deletion.specs.Reached.{Member}
use Rattle.hs_deletion.specs.Machine.{Layout, ShardState}
use Rattle.hs_deletion.specs.Rounds.{total_in}
use Rattle.hs_deletion.specs.Clocks.{label_of, IsRunning, IsIdle, AreClocksRight}
use Rattle.hs_deletion.proofs.LabelLemmas.{IsAfter, label_next, epoch_rises}

module _ (layout : Layout) (s : ℕ → ShardState) (clocks : AreClocksRight layout s) where
  completed_near : (g h : ℕ) → g < layout.shards → h < layout.shards → (s g).completed ≤ (s h).completed + 1
  completed_near g h lg lh = let a = (clocks g lg).come h lh in elim (clocks h lh).phase [ inl p ↦ omega (arith, a, p.ahead) | inr p ↦ omega (arith, a, p.level) ]

  -- two shards are at the same row, or one is a row ahead
  abbrev pub AreBeside : ℕ → ℕ → Type 0
  AreBeside g h =
      ((s g).completed ≡ (s h).completed) × ((label_of layout s (s g).completed).epoch ≡ (label_of layout s (s h).completed).epoch) × ((label_of layout s (s g).completed).round ≡ (label_of layout s (s h).completed).round)
      ⊎ ((s h).completed ≡ (s g).completed + 1) × IsAfter (total_in layout s (s g).completed) (label_of layout s (s g).completed) (label_of layout s (s h).completed)
      ⊎ ((s g).completed ≡ (s h).completed + 1) × IsAfter (total_in layout s (s h).completed) (label_of layout s (s h).completed) (label_of layout s (s g).completed)

  pub beside : (g h : ℕ) → g < layout.shards → h < layout.shards → AreBeside g h
  beside g h lg lh = elim (three (s g).completed (s h).completed (completed_near g h lg lh) (completed_near h g lh lg)) [
    | inl e ↦ inl (e, ap (λ n. (label_of layout s n).epoch) e, ap (λ n. (label_of layout s n).round) e)
    | inr (inl e) ↦ inr (inl (e, label_next layout s (s g).completed (s h).completed (omega (arith, e))))
    | inr (inr e) ↦ inr (inr (e, label_next layout s (s h).completed (s g).completed (omega (arith, e))))
  ]
    where
      three : (a b : ℕ) → a ≤ b + 1 → b ≤ a + 1 → (a ≡ b) ⊎ (b ≡ a + 1) ⊎ (a ≡ b + 1)
      three a b p q = grind arith

  -- epochs differ by at most one
  pub near : (g h : ℕ) → g < layout.shards → h < layout.shards → (s g).epoch ≤ (s h).epoch + 1
  near g h lg lh = let a = (clocks g lg).come h lh in let b = (clocks h lh).come g lg in grind (arith, beside g h lg lh, (clocks g lg).phase, (clocks h lh).phase, a, b)

  -- after its round 0 a shard knows that all are in its epoch
  pub level : (g h : ℕ) → g < layout.shards → h < layout.shards → (s g).swept < (s g).epoch → 1 ≤ (s g).round → (s g).epoch ≤ (s h).epoch
  level g h lg lh run r = let a = (clocks g lg).come h lh in let b = (clocks h lh).come g lg in grind (arith, beside g h lg lh, (clocks g lg).phase, (clocks h lh).phase, a, b)

  -- nothing is sent more than two rows ahead of what another completed
  pub sent_near : (g h : ℕ) → g < layout.shards → h < layout.shards → (s h).sent ≤ (s g).completed + 2
  sent_near g h lg lh = let b = (clocks h lh).come g lg in grind (arith, (clocks g lg).phase, (clocks h lh).phase, b)

  -- a running shard
  pub running_of : (g : ℕ) → g < layout.shards → (s g).completed < (s g).sent → IsRunning layout s (s g)
  running_of g lg l = elim (clocks g lg).phase [ inl p ↦ p | inr p ↦ absurd (omega (arith, p.level, l)) ]

  pub unswept_of : (g : ℕ) → g < layout.shards → (s g).swept < (s g).epoch → IsRunning layout s (s g)
  unswept_of g lg l = elim (clocks g lg).phase [ inl p ↦ p | inr p ↦ absurd (omega (arith, p.is_swept, l)) ]

  pub idle_of : (g : ℕ) → g < layout.shards → (s g).epoch ≡ (s g).swept → IsIdle layout s (s g)
  idle_of g lg e = elim (clocks g lg).phase [ inl p ↦ absurd (omega (arith, p.unswept, e)) | inr p ↦ p ]

  -- where a shard completes a row that isn't the last, all are in its epoch and have not swept it
  pub together : (g h : ℕ) → g < layout.shards → h < layout.shards → ((k : ℕ) → k < layout.shards → (s g).completed < (s k).sent) → ((s g).round ≡ 0) ⊎ (1 ≤ total_in layout s (s g).completed) → ((s h).epoch ≡ (s g).epoch) × ((s h).swept < (s h).epoch)
  together g h lg lh all more = let a = all h lh in let b = (clocks h lh).come g lg in let c = all g lg in (grind (arith, beside g h lg lh, (clocks g lg).phase, (clocks h lh).phase, a, b, c, more), grind (arith, beside g h lg lh, (clocks g lg).phase, (clocks h lh).phase, a, b, c, more))

  -- the row that a shard completes next is of no earlier epoch than its own
  pub epoch_of_row : (g n : ℕ) → g < layout.shards → (s g).completed ≤ n → (s g).epoch ≤ (label_of layout s n).epoch
  epoch_of_row g n lg le = let r = epoch_rises layout s (s g).completed n le in elim (clocks g lg).phase [ inl p ↦ omega (arith, p.of_epoch, r) | inr p ↦ omega (arith, p.of_epoch, r) ]

  -- what is sent is of no later epoch than its sender's
  pub epoch_of_sent : (h n : ℕ) → h < layout.shards → n < (s h).sent → (label_of layout s n).epoch ≤ (s h).epoch
  epoch_of_sent h n lh l = elim (clocks h lh).phase [
    | inl p ↦ (let r = epoch_rises layout s n (s h).completed (omega (arith, p.ahead, l)) in omega (arith, r, p.of_epoch))
    | inr p ↦ (
        let r = epoch_rises layout s n ((s h).completed - 1) (omega (arith, p.level, l)) in
        elim (label_next layout s ((s h).completed - 1) (s h).completed (omega (arith, p.level, l))) [
          | inl q ↦ omega (arith, r, q.2, p.of_epoch)
          | inr q ↦ absurd (omega (arith, q.2, p.of_round))
        ]
        )
  ]

  -- what raises was sent
  pub raised_was_sent : (h n : ℕ) (a : Address) → h < layout.shards → Member a ((s h).rounds n).raises → n < (s h).sent
  raised_was_sent h n a lh k = elim (cases_lt n (s h).sent) [ inl l ↦ l | inr l ↦ absurd (none (rw ((clocks h lh).unsent n l) at k)) ]
    where
      none : Member a [] → ⊥
      none q = elim q [ ]
