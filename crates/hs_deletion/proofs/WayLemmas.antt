-- What rows say of an address, and what is on its way where a shard sends one round more.
use Rattle.std.proofs.Common.{◌≡◌, ◌≢◌, ℕ, ◌+◌, ◌≤◌, ◌<◌, List, [], ◌⊎◌, inl, inr, arith, ap}
use Rattle.std.proofs.lemmas.Bool.{cases_eq}
use Rattle.hs_limits.specs.declared.address.Address.{Address}
use Rattle.hs_deletion.specs.Reached.{Member}
use Rattle.hs_deletion.specs.Machine.{Layout, Round, ShardState, set_at, sum_below, empty_round}
use Rattle.hs_deletion.specs.Rounds.{times, raised_in, lowered_in, total_in}
use Rattle.hs_deletion.specs.Clocks.{label_of, AreClocksRight}
use Rattle.hs_deletion.proofs.SumLemmas.{set_at_other, sum_below_same, sum_below_none, none_of_sum_below, some_of_sum_below, sum_below_more}
use Rattle.hs_deletion.proofs.RoundLemmas.{times_none, member_of_times}
use Rattle.hs_deletion.proofs.SentLemmas.{other_rounds, new_round, same_rounds}

module _ (layout : Layout) (s : ℕ → ShardState) (clocks : AreClocksRight layout s) where
  nothing : (a : Address) (xs : List Address) → xs ≡ [] → times a xs ≡ 0
  nothing a xs e = rw e (times_none a)

  -- a row of a round 0 lowers nothing, and each other row raises nothing
  pub lowered_first : (n : ℕ) (a : Address) → (label_of layout s n).round ≡ 0 → lowered_in layout s n a ≡ 0
  unfolding lowered_in
  lowered_first n a z = sum_below_none layout.shards _ (λ k l. elim ((clocks k l).lowers n) [ inl e ↦ nothing a _ e | inr e ↦ absurd (omega (arith, z, e.0)) ])

  pub raised_late : (n : ℕ) (a : Address) → 1 ≤ (label_of layout s n).round → raised_in layout s n a ≡ 0
  unfolding raised_in
  raised_late n a z = sum_below_none layout.shards _ (λ k l. elim ((clocks k l).raises n) [ inl e ↦ nothing a _ e | inr e ↦ absurd (omega (arith, z, e)) ])

  -- a row of nothing lowers nothing
  pub lowered_last : (n : ℕ) (a : Address) → total_in layout s n ≡ 0 → lowered_in layout s n a ≡ 0
  unfolding lowered_in total_in
  lowered_last n a z = sum_below_none layout.shards _ (λ k l. elim ((clocks k l).lowers n) [ inl e ↦ nothing a _ e | inr e ↦ absurd (omega (arith, none_of_sum_below layout.shards (λ h. ((s h).rounds n).total) z k l, e.1)) ])

  -- nor does what is not sent
  pub raised_unsent : (n : ℕ) (a : Address) → ((k : ℕ) → k < layout.shards → (s k).sent ≤ n) → raised_in layout s n a ≡ 0
  unfolding raised_in
  raised_unsent n a z = sum_below_none layout.shards _ (λ k l. nothing a _ (ap (λ (x : Round). x.raises) ((clocks k l).unsent n (z k l))))

  pub lowered_unsent : (n : ℕ) (a : Address) → ((k : ℕ) → k < layout.shards → (s k).sent ≤ n) → lowered_in layout s n a ≡ 0
  unfolding lowered_in
  lowered_unsent n a z = sum_below_none layout.shards _ (λ k l. nothing a _ (ap (λ (x : Round). x.lowers) ((clocks k l).unsent n (z k l))))

  -- what a row raises, some shard raises
  pub some_raised : (n : ℕ) (a : Address) → 0 < raised_in layout s n a → (h : ℕ) × (h < layout.shards) × Member a ((s h).rounds n).raises
  unfolding raised_in
  some_raised n a p = let k = some_of_sum_below layout.shards (λ h. times a ((s h).rounds n).raises) p in (k.0, k.1, member_of_times a ((s k.0).rounds n).raises k.2)

  -- a shard sends one round more
  module _ (g : ℕ) (lg : g < layout.shards) (r : Round) (t : ShardState) (sent : t.sent ≡ (s g).sent + 1) (rounds : t.rounds ≡ set_at (s g).sent r (s g).rounds) where
    abbrev sending : ℕ → ShardState
    sending = set_at g t s

    module _ (f : Round → ℕ) (none : f empty_round ≡ 0) where
      abbrev row : (ℕ → ShardState) → ℕ → ℕ
      row states n = sum_below layout.shards (λ h. f ((states h).rounds n))

      other_row : (n : ℕ) → n ≢ (s g).sent → row sending n ≡ row s n
      other_row n o = sum_below_same layout.shards _ _ (λ k l. ap f (other_rounds layout s clocks g lg r t sent rounds k n o))

      that_row : row sending (s g).sent ≡ row s (s g).sent + f r
      that_row = sum_below_more layout.shards g (λ h. f ((s h).rounds (s g).sent)) (λ h. f ((sending h).rounds (s g).sent)) (f r) lg
          (λ k l o. ap (λ (x : ShardState). f (x.rounds (s g).sent)) (set_at_other g t s k o))
          (rw (new_round layout s clocks g lg r t sent rounds, (clocks g lg).unsent (s g).sent (omega arith), none) (omega arith))

      rows : (n : ℕ) → ((n ≢ (s g).sent) × (row sending n ≡ row s n)) ⊎ ((n ≡ (s g).sent) × (row sending n ≡ row s n + f r))
      rows n = elim (cases_eq n (s g).sent) [ inl e ↦ inr (e, rw e that_row) | inr o ↦ inl (o, other_row n o) ]

      both : (n : ℕ) → n ≤ (s g).sent → (s g).sent ≤ n + 1 → row sending n + row sending (n + 1) ≡ row s n + row s (n + 1) + f r
      both n a b = elim (rows n) [
        | inl p ↦ elim (rows (n + 1)) [ inl q ↦ absurd (omega (arith, a, b, p.0, q.0)) | inr q ↦ omega (arith, p.1, q.1) ]
        | inr p ↦ elim (rows (n + 1)) [ inl q ↦ omega (arith, p.1, q.1) | inr q ↦ absurd (omega (arith, p.0, q.0)) ]
      ]

    pub raised_sent : (n : ℕ) (a : Address) → n ≤ (s g).sent → (s g).sent ≤ n + 1 → raised_in layout sending n a + raised_in layout sending (n + 1) a ≡ raised_in layout s n a + raised_in layout s (n + 1) a + times a r.raises
    unfolding raised_in
    raised_sent n a = both (λ x. times a x.raises) (times_none a) n

    pub lowered_sent : (n : ℕ) (a : Address) → n ≤ (s g).sent → (s g).sent ≤ n + 1 → lowered_in layout sending n a + lowered_in layout sending (n + 1) a ≡ lowered_in layout s n a + lowered_in layout s (n + 1) a + times a r.lowers
    unfolding lowered_in
    lowered_sent n a = both (λ x. times a x.lowers) (times_none a) n

  -- a shard sends nothing
  module _ (g : ℕ) (lg : g < layout.shards) (t : ShardState) (sent : t.sent ≡ (s g).sent) (rounds : t.rounds ≡ (s g).rounds) where
    pub raised_same : (n : ℕ) (a : Address) → raised_in layout (set_at g t s) n a ≡ raised_in layout s n a
    unfolding raised_in
    raised_same n a = sum_below_same layout.shards _ _ (λ h l. ap (λ (x : Round). times a x.raises) (same_rounds layout s clocks g lg t sent rounds h n))

    pub lowered_same : (n : ℕ) (a : Address) → lowered_in layout (set_at g t s) n a ≡ lowered_in layout s n a
    unfolding lowered_in
    lowered_same n a = sum_below_same layout.shards _ _ (λ h l. ap (λ (x : Round). times a x.lowers) (same_rounds layout s clocks g lg t sent rounds h n))
