-- Rounds stay in step where a shard sends one more, and where one completes the last row of a run.
use Rattle.std.proofs.Common.{◌≡◌, ◌≢◌, ℕ, ◌+◌, ◌≤◌, ◌<◌, [], ◌⊎◌, inl, inr, refl, arith, ap}
use Rattle.std.proofs.lemmas.Bool.{cases_eq, cases_lt}
use Rattle.hs_deletion.specs.Machine.{Layout, Round, ShardState, set_at}
use Rattle.hs_deletion.specs.Rounds.{total_in}
use Rattle.hs_deletion.specs.Clocks.{label_of, IsRunning, IsClockRight, AreClocksRight}
use Rattle.hs_deletion.proofs.SumLemmas.{set_at_self, set_at_other, sum_below_same}
use Rattle.hs_deletion.proofs.LabelLemmas.{label_next, label_same}
use Rattle.hs_deletion.proofs.ClockLemmas.{running_of}

-- a shard sends one more round
module _ (layout : Layout) (s : ℕ → ShardState) (clocks : AreClocksRight layout s) (g : ℕ) (lg : g < layout.shards) (r : Round) (t : ShardState) (sent : t.sent ≡ (s g).sent + 1) (rounds : t.rounds ≡ set_at (s g).sent r (s g).rounds) where
  abbrev pub sending : ℕ → ShardState
  sending = set_at g t s

  pub other_rounds : (k n : ℕ) → n ≢ (s g).sent → (sending k).rounds n ≡ (s k).rounds n
  other_rounds k n o = elim (cases_eq k g) [
    | inl e ↦ rw (e, set_at_self g t s, rounds) (set_at_other (s g).sent r (s g).rounds n o)
    | inr o' ↦ rw (set_at_other g t s k o') refl
  ]

  pub new_round : (sending g).rounds (s g).sent ≡ r
  new_round = rw (set_at_self g t s, rounds) (set_at_self (s g).sent r (s g).rounds)

  pub totals_stay : (n : ℕ) → n ≢ (s g).sent → total_in layout sending n ≡ total_in layout s n
  unfolding total_in
  totals_stay n o = sum_below_same layout.shards (λ h. ((sending h).rounds n).total) (λ h. ((s h).rounds n).total) (λ k l. ap (λ (x : Round). x.total) (other_rounds k n o))

  pub labels_stay : (n : ℕ) → n ≤ (s g).sent → label_of layout sending n ≡ label_of layout s n
  labels_stay n le = label_same layout s sending n (λ j l. totals_stay j (omega arith))

  -- the round fits the label of its row, and the shard's new state fits that label
  pub clocks_sent : (r.raises ≡ []) ⊎ ((label_of layout s (s g).sent).round ≡ 0) → (r.lowers ≡ []) ⊎ (1 ≤ (label_of layout s (s g).sent).round) × (1 ≤ r.total)
      → IsRunning layout s t
      → ((h : ℕ) → h < layout.shards → h ≢ g → t.completed ≤ (s h).sent)
      → AreClocksRight layout sending
  clocks_sent up down run come k lk = elim (cases_eq k g) [
    | inl e ↦ rw (e, set_at_self g t s) here
    | inr o ↦ rw (set_at_other g t s k o) (there (s k) (clocks k lk) ((clocks k lk).come g lg))
  ]
    where
      label_here : label_of layout sending t.completed ≡ label_of layout s t.completed
      label_here = labels_stay t.completed (omega (arith, run.ahead, sent))

      sent_more : (h : ℕ) → (s h).sent ≤ (sending h).sent
      sent_more h = elim (cases_eq h g) [ inl e ↦ rw (e, set_at_self g t s) (omega (arith, sent)) | inr o ↦ rw (set_at_other g t s h o) (omega arith) ]

      round_at : (n : ℕ) → ((n ≡ (s g).sent) × (t.rounds n ≡ r)) ⊎ ((n ≢ (s g).sent) × (t.rounds n ≡ (s g).rounds n))
      round_at n = elim (cases_eq n (s g).sent) [
        | inl e ↦ inl (e, rw (e, rounds) (set_at_self (s g).sent r (s g).rounds))
        | inr o ↦ inr (o, rw rounds (set_at_other (s g).sent r (s g).rounds n o))
      ]

      late : (k : ShardState) → IsClockRight layout s k → k.completed ≤ (s g).sent → (n : ℕ) → (s g).sent < n → k.sent ≤ n
      late k c le n l = elim c.phase [ inl p ↦ omega (arith, p.ahead) | inr p ↦ omega (arith, p.level) ]

      old_up : (k : ShardState) → IsClockRight layout s k → k.completed ≤ (s g).sent → (n : ℕ) → ((k.rounds n).raises ≡ []) ⊎ ((label_of layout sending n).round ≡ 0)
      old_up k c le n = elim (cases_lt (s g).sent n) [ inr b ↦ rw (labels_stay n b) (c.raises n) | inl a ↦ inl (ap (λ (x : Round). x.raises) (c.unsent n (late k c le n a))) ]

      old_down : (k : ShardState) → IsClockRight layout s k → k.completed ≤ (s g).sent → (n : ℕ) → ((k.rounds n).lowers ≡ []) ⊎ (1 ≤ (label_of layout sending n).round) × (1 ≤ (k.rounds n).total)
      old_down k c le n = elim (cases_lt (s g).sent n) [ inr b ↦ rw (labels_stay n b) (c.lowers n) | inl a ↦ inl (ap (λ (x : Round). x.lowers) (c.unsent n (late k c le n a))) ]

      here : IsClockRight layout sending t
      here = record {
        phase = inl (record { unswept = run.unswept; ahead = run.ahead; of_epoch = rw label_here run.of_epoch; of_round = rw label_here run.of_round });
        come = λ h lh. elim (cases_eq h g) [ inl e ↦ rw (e, set_at_self g t s) (omega (arith, run.ahead)) | inr o ↦ rw (set_at_other g t s h o) (come h lh o) ];
        unsent = λ n le. elim (round_at n) [ inl q ↦ absurd (omega (arith, q.0, sent, le)) | inr q ↦ rw (q.1) ((clocks g lg).unsent n (omega (arith, sent))) ];
        raises = λ n. elim (round_at n) [ inl q ↦ rw (q.1, q.0, labels_stay (s g).sent (omega arith)) up | inr q ↦ rw (q.1) (old_up (s g) (clocks g lg) ((clocks g lg).come g lg) n) ];
        lowers = λ n. elim (round_at n) [ inl q ↦ rw (q.1, q.0, labels_stay (s g).sent (omega arith)) down | inr q ↦ rw (q.1) (old_down (s g) (clocks g lg) ((clocks g lg).come g lg) n) ];
      }

      there : (k : ShardState) → IsClockRight layout s k → k.completed ≤ (s g).sent → IsClockRight layout sending k
      there k c le = record {
        phase = elim c.phase [
          | inl p ↦ inl (record { unswept = p.unswept; ahead = p.ahead; of_epoch = rw (labels_stay k.completed le) p.of_epoch; of_round = rw (labels_stay k.completed le) p.of_round })
          | inr p ↦ inr (record { is_swept = p.is_swept; level = p.level; of_epoch = rw (labels_stay k.completed le) p.of_epoch; of_round = rw (labels_stay k.completed le) p.of_round })
        ];
        come = λ h lh. omega (arith, c.come h lh, sent_more h);
        unsent = c.unsent;
        raises = old_up k c le;
        lowers = old_down k c le;
      }

-- a shard completes the last row of a run
module _ (layout : Layout) (s : ℕ → ShardState) (clocks : AreClocksRight layout s) (g : ℕ) (lg : g < layout.shards) (t : ShardState) (sent : t.sent ≡ (s g).sent) (rounds : t.rounds ≡ (s g).rounds) where
  abbrev pub ending : ℕ → ShardState
  ending = set_at g t s

  pub same_rounds : (k n : ℕ) → (ending k).rounds n ≡ (s k).rounds n
  same_rounds k n = elim (cases_eq k g) [ inl e ↦ rw (e, set_at_self g t s, rounds) refl | inr o ↦ rw (set_at_other g t s k o) refl ]

  pub totals_same : (n : ℕ) → total_in layout ending n ≡ total_in layout s n
  unfolding total_in
  totals_same n = sum_below_same layout.shards (λ h. ((ending h).rounds n).total) (λ h. ((s h).rounds n).total) (λ k l. ap (λ (x : Round). x.total) (same_rounds k n))

  pub labels_same : (n : ℕ) → label_of layout ending n ≡ label_of layout s n
  labels_same n = label_same layout s ending n (λ j l. totals_same j)

  pub clocks_ended : t.completed ≡ (s g).completed + 1 → t.epoch ≡ (s g).epoch → t.swept ≡ (s g).epoch → ((k : ℕ) → k < layout.shards → (s g).completed < (s k).sent) → 1 ≤ (s g).round → total_in layout s (s g).completed ≡ 0 → AreClocksRight layout ending
  clocks_ended row epoch swept all late none k lk = elim (cases_eq k g) [
    | inl e ↦ rw (e, set_at_self g t s) here
    | inr o ↦ rw (set_at_other g t s k o) (there (s k) (clocks k lk))
  ]
    where
      sent_same : (h : ℕ) → (ending h).sent ≡ (s h).sent
      sent_same h = elim (cases_eq h g) [ inl e ↦ rw (e, set_at_self g t s) sent | inr o ↦ rw (set_at_other g t s h o) refl ]

      c : IsClockRight layout s (s g)
      c = clocks g lg

      there : (k : ShardState) → IsClockRight layout s k → IsClockRight layout ending k
      there k c = record {
        phase = elim c.phase [
          | inl p ↦ inl (record { unswept = p.unswept; ahead = p.ahead; of_epoch = rw (labels_same k.completed) p.of_epoch; of_round = rw (labels_same k.completed) p.of_round })
          | inr p ↦ inr (record { is_swept = p.is_swept; level = p.level; of_epoch = rw (labels_same k.completed) p.of_epoch; of_round = rw (labels_same k.completed) p.of_round })
        ];
        come = λ h lh. omega (arith, c.come h lh, sent_same h);
        unsent = c.unsent;
        raises = λ n. rw (labels_same n) (c.raises n);
        lowers = λ n. rw (labels_same n) (c.lowers n);
      }

      run : IsRunning layout s (s g)
      run = running_of layout s clocks g lg (all g lg)

      over : ((label_of layout s t.completed).epoch ≡ (s g).epoch + 1) × ((label_of layout s t.completed).round ≡ 0)
      over = elim (label_next layout s (s g).completed t.completed (omega (arith, row))) [
        | inl q ↦ (omega (arith, q.2, run.of_epoch), q.3)
        | inr q ↦ elim q.0 [ inl z ↦ absurd (omega (arith, z, run.of_round, late)) | inr z ↦ absurd (omega (arith, z, none)) ]
      ]

      here : IsClockRight layout ending t
      here = record {
        phase = inr (record { is_swept = omega (arith, epoch, swept); level = omega (arith, sent, row, run.ahead); of_epoch = rw (labels_same t.completed) (omega (arith, over.0, epoch)); of_round = rw (labels_same t.completed) over.1 });
        come = λ h lh. omega (arith, all h lh, sent_same h, row);
        unsent = λ n le. rw rounds (c.unsent n (omega (arith, sent, le)));
        raises = λ n. rw (labels_same n, rounds) (c.raises n);
        lowers = λ n. rw (labels_same n, rounds) (c.lowers n);
      }
