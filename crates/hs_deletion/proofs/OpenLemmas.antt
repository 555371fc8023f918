-- The open round of a catalogue that follows is the row that its shard completes next.
use Rattle.std.proofs.Common.{◌≡◌, ℕ, zero, suc, ◌<◌, Bool, true, inl, inr, refl, arith, Option, Some, None, is_some, nat_lt}
use Rattle.std.proofs.lemmas.Bool.{and_parts, cases_eq, ltb-true}
use Rattle.hs_limits.specs.declared.address.Address.{Address}
use Rattle.hs_deletion.specs.Records.{BlockRecord}
use Rattle.hs_deletion.specs.Machine.{Layout, Machine, sum_below}
use Rattle.hs_deletion.specs.Rounds.{times, raised_in, lowered_in, total_in}
use Rattle.hs_deletion.specs.Steps.{recounted_at}
use Rattle.hs_deletion.specs.History.{is_last, MayComplete}
use Rattle.hs_deletion.specs.Clocks.{IsRunning}
use Rattle.hs_deletion.specs.Invariants.{IsRight}
use Rattle.hs_deletion.specs.Catalogue.{ShardCatalogue, all_below, open_round, is_complete, is_open_last, recounted_in}
use Rattle.hs_deletion.specs.Following.{IsSent, IsFollowing}
use Rattle.hs_deletion.proofs.SumLemmas.{sum_below_same}
use Rattle.hs_deletion.proofs.LabelLemmas.{label_tells}
use Rattle.hs_deletion.proofs.ClockLemmas.{unswept_of}

each_below : (n : ℕ) (test : ℕ → Bool) → all_below n test ≡ true → (k : ℕ) → k < n → test k ≡ true
unfolding all_below
each_below zero test e k l = absurd (omega arith)
each_below (suc n) test e k l = let p = and_parts (test n) (all_below n test) e in elim (cases_eq k n) [ inl s ↦ rw s p.0 | inr o ↦ each_below n test p.1 k (omega (arith, l, o)) ]

some_of : {X : Type 0} (o : Option X) → is_some o ≡ true → (x : X) × (o ≡ Some x)
some_of None e = cc
some_of (Some x) e = (x, refl)

module _ (layout : Layout) (m : Machine) (right : IsRight layout m) (g : ℕ) (lg : g < layout.shards) (c : ShardCatalogue) (follows : IsFollowing layout m g c) (complete : is_complete layout.shards c ≡ true) where
  -- the shard is in a run
  parts : (nat_lt c.swept c.epoch ≡ true) × (all_below layout.shards (λ sender. is_some (c.got sender c.epoch c.round)) ≡ true)
  parts = and_parts (nat_lt c.swept c.epoch) (all_below layout.shards (λ sender. is_some (c.got sender c.epoch c.round))) complete

  pub unswept : (m.states g).swept < (m.states g).epoch
  unswept = omega (arith, ltb-true c.swept c.epoch parts.0, follows.epoch, follows.swept)

  pub running : IsRunning layout m.states (m.states g)
  running = unswept_of layout m.states right.clocks g lg unswept

  pub round_is : c.round ≡ (m.states g).round
  round_is = follows.round unswept

  -- each sender's open round was sent as the row that comes next
  from_each : (h : ℕ) → h < layout.shards → IsSent layout m.states g h c.epoch c.round (open_round c h)
  from_each h lh =
      let some = some_of (c.got h c.epoch c.round) (each_below layout.shards (λ sender. is_some (c.got sender c.epoch c.round)) parts.1 h lh) in
      let sent : IsSent layout m.states g h c.epoch c.round some.0 = follows.got h c.epoch c.round some.0 some.1 in
      rw (some.1) sent

  row_is : (h : ℕ) (lh : h < layout.shards) → (from_each h lh).row ≡ (m.states g).completed
  row_is h lh =
      let s = from_each h lh in
      label_tells layout m.states s.row (m.states g).completed (omega (arith, s.of_epoch, running.of_epoch, follows.epoch)) (omega (arith, s.of_round, running.of_round, round_is))

  pub may_complete : MayComplete layout m g
  may_complete = record { within = lg; sent = λ h lh. (let s = from_each h lh in omega (arith, s.sent, row_is h lh)) }

  pub raised_same : (a : Address) → layout.home a ≡ g → sum_below layout.shards (λ h. times a (open_round c h).raises) ≡ raised_in layout m.states (m.states g).completed a
  unfolding raised_in
  raised_same a e = sum_below_same layout.shards _ _ (λ h lh. rw (← row_is h lh) ((from_each h lh).raises a e))

  pub lowered_same : (a : Address) → layout.home a ≡ g → sum_below layout.shards (λ h. times a (open_round c h).lowers) ≡ lowered_in layout m.states (m.states g).completed a
  unfolding lowered_in
  lowered_same a e = sum_below_same layout.shards _ _ (λ h lh. rw (← row_is h lh) ((from_each h lh).lowers a e))

  total_same : sum_below layout.shards (λ h. (open_round c h).total) ≡ total_in layout m.states (m.states g).completed
  unfolding total_in
  total_same = sum_below_same layout.shards _ _ (λ h lh. rw (← row_is h lh) (from_each h lh).total)

  -- it is the last of its run in both, and does the same to the shard's blocks
  pub last_same : is_open_last layout.shards c ≡ is_last layout g m
  last_same = rw (total_same, round_is) refl

  pub recounted_same : (b : BlockRecord) → layout.home b.address ≡ g → recounted_at layout g m b ≡ recounted_in layout.shards c b
  recounted_same b e = rw (raised_same b.address e, lowered_same b.address e) refl
