-- What a sweep removes and spares, and that it keeps the counts.
use Rattle.std.proofs.Common.{◌≡◌, ◌≢◌, ℕ, ◌+◌, ◌≤◌, ◌<◌, Bool, true, false, not, ◌&&◌, ◌⊎◌, inl, inr, refl, sym, ◌∙◌, ap, arith, filter}
use Rattle.std.proofs.lemmas.Bool.{not-true, eqb-true, eq-eqb, and_parts, cases_Bool, cases_eq, cases_lt, both_ways}
use Rattle.hs_limits.specs.declared.address.Address.{Address}
use Rattle.hs_model.proofs.Members.{member-map, member_of_map, member-filter, member_of_filter}
use Rattle.hs_deletion.specs.Reached.{Member}
use Rattle.hs_deletion.specs.Records.{BlockRecord, change_if, is_removed, spared, renewed}
use Rattle.hs_deletion.specs.Machine.{Layout, ShardState, Machine, is_at}
use Rattle.hs_deletion.specs.Rounds.{raised_in, lowered_in}
use Rattle.hs_deletion.specs.Steps.{state_swept, after_sweep}
use Rattle.hs_deletion.specs.Anchors.{IsThere, IsReachedIn}
use Rattle.hs_deletion.specs.Counts.{block_weight, indegree, IsCount, AreCountsRight}
use Rattle.hs_deletion.specs.Promises.{IsAtTheLast, RemovesExactly}
use Rattle.hs_deletion.specs.Clocks.{IsRunning}
use Rattle.hs_deletion.specs.Invariants.{IsRight}
use Rattle.hs_deletion.proofs.SumLemmas.{set_at_self, set_at_other, sum_by_same, sum_by_map, sum_by_none, sum_by_parted}
use Rattle.hs_deletion.proofs.TestLemmas.{removed_tells, removed_is}
use Rattle.hs_deletion.proofs.ClockLemmas.{running_of, sent_near, level}
use Rattle.hs_deletion.proofs.WayLemmas.{raised_late, lowered_last, raised_unsent, lowered_unsent, raised_same, lowered_same}
use Rattle.hs_deletion.proofs.ReachLemmas.{reached_earlier}
use Rattle.hs_deletion.proofs.StepLemmas.{change_if_cases, changed_at, same_changed, same_root, IsChanged, KeepsReached, block_before}
use Rattle.hs_deletion.proofs.CountLemmas.{there_or_not, weight_uncounted, weight_zero, counts_changed}

module _ (layout : Layout) (m : Machine) (right : IsRight layout m) (g : ℕ) (last : IsAtTheLast layout m g) where
  abbrev pub epoch_of : ℕ
  epoch_of = (m.states g).epoch

  -- the last row
  abbrev pub row : ℕ
  row = (m.states g).completed

  abbrev pub stepped : Machine
  stepped = after_sweep layout g m

  abbrev pub new : ShardState
  new = state_swept (m.states g)

  abbrev pub change_of : BlockRecord → BlockRecord
  change_of = change_if (is_at layout g) spared

  abbrev pub goes : BlockRecord → Bool
  goes b = is_at layout g b && is_removed epoch_of b

  pub run : IsRunning layout m.states (m.states g)
  run = running_of layout m.states right.clocks g last.within (last.sent g last.within)

  -- all have come so far
  pub level_all : (h : ℕ) → h < layout.shards → epoch_of ≤ (m.states h).epoch
  level_all h lh = level layout m.states right.clocks g h last.within lh (omega (arith, run.unswept)) last.late

  -- what the test of a removed block tells
  pub goes_tells : (b : BlockRecord) → goes b ≡ true → (layout.home b.address ≡ g) × (b.zero ≡ true) × (b.mark < epoch_of)
  goes_tells b t =
      let u = and_parts (is_at layout g b) (is_removed epoch_of b) t in
      let v = removed_tells epoch_of b u.1 in
      (eqb-true (layout.home b.address) g u.0, v.0, v.1)

  -- what the run reaches is not removed: a reached zero block was given in the epoch
  pub reached_stays : (b : BlockRecord) → Member b m.blocks → IsReachedIn m epoch_of b.address → goes b ≡ false
  reached_stays b k r = elim (cases_Bool (goes b)) [
    | inr f ↦ f
    | inl t ↦ (
        let u = goes_tells b t in
        let mark : b.mark ≡ epoch_of = rw u.0 at (right.no_wrong_zero b k u.1 (rw (u.0) r)) in
        absurd (omega (arith, mark, u.2))
        )
  ]

  -- ---- the step

  pub changed : IsChanged m stepped change_of (λ r. r)
  changed = record {
    block_same = same_changed (is_at layout g) spared (same_changed (λ b. b.zero) renewed (λ b. record { address = refl; pointers = refl; born = refl; mark = refl }));
    block_from = λ c k. (let p = member_of_map change_of c (filter (λ b. not (goes b)) m.blocks) k in (p.0, (member_of_filter (λ b. not (goes b)) p.0 m.blocks p.1).0, sym p.2));
    root_same = same_root;
    root_from = λ q k. (q, k, refl);
  }

  -- each block after the sweep is one that was not removed
  pub kept_from : (c : BlockRecord) → Member c stepped.blocks → (b : BlockRecord) × Member b m.blocks × (goes b ≡ false) × (change_of b ≡ c)
  kept_from c k = let p = member_of_map change_of c (filter (λ b. not (goes b)) m.blocks) k in let q = member_of_filter (λ b. not (goes b)) p.0 m.blocks p.1 in (p.0, q.0, not-true (goes p.0) q.1, sym p.2)

  pub kept_to : (b : BlockRecord) → Member b m.blocks → goes b ≡ false → Member (change_of b) stepped.blocks
  kept_to b k f = member-map change_of b (filter (λ b. not (goes b)) m.blocks) (member-filter (λ b. not (goes b)) b m.blocks k (rw f refl))

  pub keeps : (run : ℕ) → epoch_of ≤ run → KeepsReached run m stepped change_of (λ r. r)
  keeps run le = record { block_to = λ b k r. kept_to b k (reached_stays b k (reached_earlier m epoch_of run le b.address r)); root_to = λ r k d. k }

  -- a block that stays: a zero block of the shard is spared, and each other is as it was
  pub spared_is : (b : BlockRecord) → ((layout.home b.address ≡ g) × (b.zero ≡ true) × (change_of b ≡ renewed b)) ⊎ (((layout.home b.address ≢ g) ⊎ (b.zero ≡ false)) × (change_of b ≡ b))
  spared_is b = elim (changed_at layout g spared b) [
    | inr o ↦ inr (inl o.0, o.1)
    | inl h ↦ elim (change_if_cases (λ (b : BlockRecord). b.zero) renewed b) [ inl z ↦ inl (h.0, z.0, h.1 ∙ z.1) | inr z ↦ inr (inr z.0, h.1 ∙ z.1) ]
  ]

  -- a spared block was given in the epoch
  pub spared_mark : (b : BlockRecord) → layout.home b.address ≡ g → b.zero ≡ true → goes b ≡ false → epoch_of ≤ b.mark
  spared_mark b e z f = elim (cases_lt b.mark epoch_of) [
    | inr l ↦ l
    | inl l ↦ absurd (both_ways (goes b) f (rw (eq-eqb (layout.home b.address) g e) (removed_is epoch_of b z l)))
  ]

  -- ---- the counts

  weight_spared : (a : Address) (b : BlockRecord) → block_weight a (change_of b) ≡ block_weight a b
  weight_spared a b = elim (spared_is b) [
    | inl s ↦ rw (s.2) (weight_uncounted a (renewed b) refl ∙ sym (weight_zero a b s.1))
    | inr o ↦ rw (o.1) refl
  ]

  -- no zero block names anything, so what is removed names nothing
  indegree_swept : (a : Address) → indegree stepped a ≡ indegree m a
  unfolding indegree
  indegree_swept a = omega (
    arith,
    sum_by_map (block_weight a) change_of (filter (λ b. not (goes b)) m.blocks),
    sum_by_same (λ b. block_weight a (change_of b)) (block_weight a) (filter (λ b. not (goes b)) m.blocks) (λ b k. weight_spared a b),
    sum_by_parted (block_weight a) goes m.blocks,
    sum_by_none (block_weight a) (filter goes m.blocks) (λ b k. weight_zero a b (goes_tells b (member_of_filter goes b m.blocks k).1).1),
  )

  pub completed_here : (k : ℕ) → k ≡ g → (stepped.states k).completed ≡ row + 1
  completed_here k e = rw (e, set_at_self g new m.states) refl

  pub completed_there : (k : ℕ) → k ≢ g → (stepped.states k).completed ≡ (m.states k).completed
  completed_there k o = rw (set_at_other g new m.states k o) refl

  beyond : (k : ℕ) → k < layout.shards → (m.states k).sent ≤ row + 1 + 1
  beyond k lk = omega (arith, sent_near layout m.states right.clocks g k last.within lk)

  same_raised : (n : ℕ) (a : Address) → raised_in layout stepped.states n a ≡ raised_in layout m.states n a
  same_raised = raised_same layout m.states right.clocks g last.within new refl refl

  same_lowered : (n : ℕ) (a : Address) → lowered_in layout stepped.states n a ≡ lowered_in layout m.states n a
  same_lowered = lowered_same layout m.states right.clocks g last.within new refl refl

  count_kept : (a : Address) (c : ℕ) → IsCount layout m a c → IsCount layout stepped a c
  count_kept a c h = elim (cases_eq (layout.home a) g) [
    | inl e ↦ (
        let h' : c + (raised_in layout m.states row a + raised_in layout m.states (row + 1) a) ≡ indegree m a + (lowered_in layout m.states row a + lowered_in layout m.states (row + 1) a) = rw e at h in
        rw (completed_here (layout.home a) e) (omega (
          arith,
          h',
          indegree_swept a,
          same_raised (row + 1) a,
          same_raised (row + 1 + 1) a,
          same_lowered (row + 1) a,
          same_lowered (row + 1 + 1) a,
          raised_late layout m.states right.clocks row a (omega (arith, run.of_round, last.late)),
          lowered_last layout m.states right.clocks row a last.none,
          raised_unsent layout m.states right.clocks (row + 1 + 1) a beyond,
          lowered_unsent layout m.states right.clocks (row + 1 + 1) a beyond,
        ))
        )
    | inr o ↦ (
        let n : ℕ = (m.states (layout.home a)).completed in
        rw (completed_there (layout.home a) o) (omega (arith, h, indegree_swept a, same_raised n a, same_raised (n + 1) a, same_lowered n a, same_lowered (n + 1) a))
        )
  ]

  pub counts_swept : AreCountsRight layout stepped
  counts_swept = counts_changed layout m stepped change_of (λ r. r) changed right.counts
      (λ b k h. rw (count_is b) (count_kept b.address b.count h))
      (λ a none. elim (there_or_not m.blocks a) [ inr gone ↦ count_kept a 0 (right.counts.absent a gone) | inl p ↦ removed a p none (cases_Bool (goes p.block)) ])
    where
      count_is : (b : BlockRecord) → (change_of b).count ≡ b.count
      count_is b = elim (spared_is b) [ inl s ↦ ap (λ (x : BlockRecord). x.count) s.2 | inr o ↦ ap (λ (x : BlockRecord). x.count) o.1 ]

      -- a removed block had count 0
      removed : (a : Address) (p : IsThere m.blocks a) → ¬ IsThere stepped.blocks a → (goes p.block ≡ true) ⊎ (goes p.block ≡ false) → IsCount layout stepped a 0
      removed a p none (inr f) = absurd (none (record { block = change_of p.block; stands = kept_to p.block p.stands f; here = rw (← (changed.block_same p.block).address) p.here }))
      removed a p none (inl t) =
          let z : p.block.count ≡ 0 = ((right.blocks p.block p.stands).is_zero (goes_tells p.block t).1).none in
          let h : IsCount layout m a p.block.count = rw p.here at (right.counts.present p.block p.stands) in
          count_kept a 0 (rw z at h)

  -- ---- what a sweep removes

  pub removes_exactly : RemovesExactly layout m g stepped.blocks
  removes_exactly = record {
    removed = λ b k away p. (
        let c = kept_from p.block p.stands in
        let same : c.0.address ≡ b.address = (changed.block_same c.0).address ∙ ap (λ (x : BlockRecord). x.address) c.3 ∙ p.here in
        let is : c.0 ≡ b = right.distinct c.0 b c.1 k same in
        let z = right.exact_zero g last b k away in
        both_ways (goes b) (ap goes (sym is) ∙ c.2) (rw (eq-eqb (layout.home b.address) g away.of_shard) (removed_is epoch_of b z.0 z.1))
        );
    kept = λ b k stays. elim (cases_Bool (goes b)) [
      | inr f ↦ (change_of b, kept_to b k f, changed.block_same b)
      | inl t ↦ (
          let u = goes_tells b t in
          absurd (stays (record { of_shard = u.0; older = omega (arith, (right.blocks b k).born, u.2); unreached = λ r. both_ways (goes b) (reached_stays b k r) t }))
          )
    ];
    only = λ c k. block_before m stepped change_of (λ r. r) changed c k;
  }
