-- What entering an epoch changes, and that it keeps the counts.
use Rattle.std.proofs.Common.{◌≡◌, ◌≢◌, ℕ, ◌+◌, ◌≤◌, ◌<◌, true, false, cond, ◌⊎◌, inl, inr, refl, sym, ◌∙◌, ap, subst, arith}
use Rattle.std.proofs.lemmas.Bool.{cases_Bool, cases_eq, eqb-true}
use Rattle.hs_limits.specs.declared.address.Address.{Address}
use Rattle.hs_model.proofs.Members.{member-map, member_of_map}
use Rattle.hs_deletion.specs.Reached.{Member}
use Rattle.hs_deletion.specs.Records.{BlockRecord, RootRecord, change_if, begins, root_begins, entered, root_entered}
use Rattle.hs_deletion.specs.Machine.{Layout, Round, ShardState, Machine, is_at, is_root_at}
use Rattle.hs_deletion.specs.Rounds.{times, pointers_where, addresses_where, first_round}
use Rattle.hs_deletion.specs.Steps.{blocks_at, roots_at, state_entered, after_enter}
use Rattle.hs_deletion.specs.Counts.{block_weight, root_weight, indegree, IsCount, AreCountsRight}
use Rattle.hs_deletion.specs.History.{MayEnter}
use Rattle.hs_deletion.specs.Clocks.{IsIdle}
use Rattle.hs_deletion.specs.Invariants.{IsBlockRight, IsRootRight, IsRight}
use Rattle.hs_deletion.proofs.SumLemmas.{set_at_self, set_at_other, sum_by_more, sum_by_both}
use Rattle.hs_deletion.proofs.TestLemmas.{begins_tells, not_begins_tells, root_begins_tells, root_not_begins_tells}
use Rattle.hs_deletion.proofs.RoundLemmas.{times_none, times_append, times_pointers_where, times_addresses_where}
use Rattle.hs_deletion.proofs.ClockLemmas.{idle_of}
use Rattle.hs_deletion.proofs.WayLemmas.{raised_sent, lowered_sent}
use Rattle.hs_deletion.proofs.StepLemmas.{change_if_cases, changed_at, root_changed_at, same_changed, same_root_changed, IsChanged, KeepsReached}
use Rattle.hs_deletion.proofs.CountLemmas.{weight_counted, weight_uncounted, root_weight_counted, root_weight_uncounted, counts_changed, absent_before}

module _ (layout : Layout) (m : Machine) (right : IsRight layout m) (g : ℕ) (may : MayEnter layout m g) where
  abbrev pub epoch_of : ℕ
  epoch_of = (m.states g).epoch + 1

  abbrev pub stepped : Machine
  stepped = after_enter layout g m

  abbrev pub new : ShardState
  new = state_entered layout g m

  abbrev pub round_of : Round
  round_of = first_round epoch_of (blocks_at layout g m.blocks) (roots_at g m.roots)

  abbrev pub change_of : BlockRecord → BlockRecord
  change_of = change_if (is_at layout g) (entered epoch_of)

  abbrev pub root_change_of : RootRecord → RootRecord
  root_change_of = change_if (is_root_at g) (root_entered epoch_of)

  pub idle : IsIdle layout m.states (m.states g)
  idle = idle_of layout m.states right.clocks g may.within may.is_swept

  pub changed : IsChanged m stepped change_of root_change_of
  changed = record {
    block_same = same_changed (is_at layout g) (entered epoch_of) (same_changed (begins epoch_of) (λ b. record b { counted = true }) (λ b. record { address = refl; pointers = refl; born = refl; mark = refl }));
    block_from = λ c k. (let p = member_of_map change_of c m.blocks k in (p.0, p.1, sym p.2));
    root_same = same_root_changed (is_root_at g) (root_entered epoch_of) (same_root_changed (root_begins epoch_of) (λ r. record r { counted = true }) (λ r. record { home = refl; addresses = refl; created = refl; dropped = refl }));
    root_from = λ q k. (let p = member_of_map root_change_of q m.roots k in (p.0, p.1, sym p.2));
  }

  pub block_stays : (b : BlockRecord) → Member b m.blocks → Member (change_of b) stepped.blocks
  block_stays b k = member-map change_of b m.blocks k

  pub keeps : (run : ℕ) → KeepsReached run m stepped change_of root_change_of
  keeps run = record { block_to = λ b k r. block_stays b k; root_to = λ r k d. member-map root_change_of r m.roots k }

  block_here : (b : BlockRecord) → Member b m.blocks → layout.home b.address ≡ g → IsBlockRight (m.states g) b
  block_here b k e = rw e at (right.blocks b k)

  root_here : (r : RootRecord) → Member r m.roots → r.home ≡ g → IsRootRight (m.states g) r
  root_here r k e = subst (λ (h : ℕ). IsRootRight (m.states h) r) e (right.roots r k)

  -- no zero block is there while the shard has swept its epoch
  pub no_zero_here : (b : BlockRecord) → Member b m.blocks → layout.home b.address ≡ g → ¬ (b.zero ≡ true)
  no_zero_here b k e z = omega (arith, ((block_here b k e).is_zero z).running, may.is_swept)

  -- all of the shard's blocks, and roots, are counted then
  pub entered_is : (b : BlockRecord) → Member b m.blocks → ((layout.home b.address ≡ g) × (change_of b ≡ record b { counted = true })) ⊎ ((layout.home b.address ≢ g) × (change_of b ≡ b))
  entered_is b k = elim (changed_at layout g (entered epoch_of) b) [
    | inr o ↦ inr o
    | inl p ↦ inl (p.0, p.1 ∙ (elim (change_if_cases (begins epoch_of) (λ b. record b { counted = true }) b) [ inl q ↦ q.1 | inr q ↦ q.1 ∙ counted b (not_begins_tells epoch_of b (young p.0) q.0) ]))
  ]
    where
      young : layout.home b.address ≡ g → b.born < epoch_of
      young e = let r = block_here b k e in omega (arith, r.born, r.mark)

      counted : (b : BlockRecord) → b.counted ≡ true → b ≡ record b { counted = true }
      counted b c = λ i. record b { counted = c i }

  pub root_entered_is : (r : RootRecord) → Member r m.roots → ((r.home ≡ g) × (root_change_of r ≡ record r { counted = true })) ⊎ ((r.home ≢ g) × (root_change_of r ≡ r))
  root_entered_is r k = elim (root_changed_at g (root_entered epoch_of) r) [
    | inr o ↦ inr o
    | inl p ↦ inl (p.0, p.1 ∙ (elim (change_if_cases (root_begins epoch_of) (λ r. record r { counted = true }) r) [ inl q ↦ q.1 | inr q ↦ q.1 ∙ counted r (root_not_begins_tells epoch_of r (young p.0) q.0) ]))
  ]
    where
      young : r.home ≡ g → r.created < epoch_of
      young e = omega (arith, (root_here r k e).created)

      counted : (r : RootRecord) → r.counted ≡ true → r ≡ record r { counted = true }
      counted r c = λ i. record r { counted = c i }

  -- ---- the counts

  weight_more : (a : Address) (b : BlockRecord) → Member b m.blocks → block_weight a (change_of b) ≡ block_weight a b + cond (is_at layout g b) (cond (begins epoch_of b) (times a b.pointers) 0) 0
  weight_more a b k = elim (change_if_cases (is_at layout g) (entered epoch_of) b) [
    | inr o ↦ rw (o.1, o.0) (omega arith)
    | inl p ↦ rw (p.1, p.0) (inner (change_if_cases (begins epoch_of) (λ b. record b { counted = true }) b) (λ z. no_zero_here b k (eqb-true (layout.home b.address) g p.0) z))
  ]
    where
      inner : ((begins epoch_of b ≡ true) × (entered epoch_of b ≡ record b { counted = true })) ⊎ ((begins epoch_of b ≡ false) × (entered epoch_of b ≡ b)) → ¬ (b.zero ≡ true) → block_weight a (entered epoch_of b) ≡ block_weight a b + cond (begins epoch_of b) (times a b.pointers) 0
      inner (inr o) n = rw (o.1, o.0) (omega arith)
      inner (inl p) n =
          let un : b.counted ≡ false = begins_tells epoch_of b p.0 in
          let z : b.zero ≡ false = elim (cases_Bool b.zero) [ inl y ↦ absurd (n y) | inr f ↦ f ] in
          rw (p.1, p.0) (omega (arith, weight_counted a (record b { counted = true }) refl z, weight_uncounted a b un))

  root_weight_more : (a : Address) (r : RootRecord) → root_weight a (root_change_of r) ≡ root_weight a r + cond (is_root_at g r) (cond (root_begins epoch_of r) (times a r.addresses) 0) 0
  root_weight_more a r = elim (change_if_cases (is_root_at g) (root_entered epoch_of) r) [
    | inr o ↦ rw (o.1, o.0) (omega arith)
    | inl p ↦ rw (p.1, p.0) (inner (change_if_cases (root_begins epoch_of) (λ r. record r { counted = true }) r))
  ]
    where
      inner : ((root_begins epoch_of r ≡ true) × (root_entered epoch_of r ≡ record r { counted = true })) ⊎ ((root_begins epoch_of r ≡ false) × (root_entered epoch_of r ≡ r)) → root_weight a (root_entered epoch_of r) ≡ root_weight a r + cond (root_begins epoch_of r) (times a r.addresses) 0
      inner (inr o) = rw (o.1, o.0) (omega arith)
      inner (inl p) =
          let un : r.counted ≡ false = root_begins_tells epoch_of r p.0 in
          rw (p.1, p.0) (omega (arith, root_weight_counted a (record r { counted = true }) refl, root_weight_uncounted a r un))

  indegree_more : (a : Address) → indegree stepped a ≡ indegree m a + times a round_of.raises
  unfolding indegree
  indegree_more a = omega (
    arith,
    sum_by_more (block_weight a) change_of (block_weight a) (λ b. cond (is_at layout g b) (cond (begins epoch_of b) (times a b.pointers) 0) 0) m.blocks (weight_more a),
    sum_by_more (root_weight a) root_change_of (root_weight a) (λ r. cond (is_root_at g r) (cond (root_begins epoch_of r) (times a r.addresses) 0) 0) m.roots (λ r k. root_weight_more a r),
    times_append a (pointers_where (begins epoch_of) (blocks_at layout g m.blocks)) (addresses_where (root_begins epoch_of) (roots_at g m.roots)),
    times_pointers_where a (begins epoch_of) (blocks_at layout g m.blocks),
    times_addresses_where a (root_begins epoch_of) (roots_at g m.roots),
    sum_by_both (λ b. times a b.pointers) (is_at layout g) (begins epoch_of) m.blocks,
    sum_by_both (λ r. times a r.addresses) (is_root_at g) (root_begins epoch_of) m.roots,
  )

  pub completed_same : (k : ℕ) → (stepped.states k).completed ≡ (m.states k).completed
  completed_same k = elim (cases_eq k g) [ inl e ↦ rw (e, set_at_self g new m.states) refl | inr o ↦ rw (set_at_other g new m.states k o) refl ]

  count_kept : (a : Address) (c : ℕ) → IsCount layout m a c → IsCount layout stepped a c
  count_kept a c h =
      let k : ℕ = layout.home a in
      let n : ℕ = (m.states k).completed in
      let low : n ≤ (m.states g).sent = (right.clocks k (layout.within a)).come g may.within in
      let come = (right.clocks g may.within).come k (layout.within a) in
      let high : (m.states g).sent ≤ n + 1 = elim (right.clocks k (layout.within a)).phase [ inl p ↦ omega (arith, idle.level, p.ahead, come) | inr p ↦ omega (arith, idle.level, p.level, come) ] in
      rw (completed_same k) (omega (arith, h, indegree_more a, raised_sent layout m.states right.clocks g may.within round_of new refl refl n a low high, lowered_sent layout m.states right.clocks g may.within round_of new refl refl n a low high, times_none a))

  pub counts_entered : AreCountsRight layout stepped
  counts_entered = counts_changed layout m stepped change_of root_change_of changed right.counts
      (λ b k h. rw (count_is b) (count_kept b.address b.count h))
      (λ a none. count_kept a 0 (right.counts.absent a (absent_before m stepped change_of root_change_of changed block_stays a none)))
    where
      count_is : (b : BlockRecord) → (change_of b).count ≡ b.count
      count_is b = elim (change_if_cases (is_at layout g) (entered epoch_of) b) [
        | inr o ↦ ap (λ (x : BlockRecord). x.count) o.1
        | inl p ↦ ap (λ (x : BlockRecord). x.count) p.1 ∙ (elim (change_if_cases (begins epoch_of) (λ b. record b { counted = true }) b) [ inl q ↦ ap (λ (x : BlockRecord). x.count) q.1 | inr q ↦ ap (λ (x : BlockRecord). x.count) q.1 ])
      ]
