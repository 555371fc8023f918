-- Entering an epoch keeps the machine right.
use Rattle.std.proofs.Common.{◌≡◌, ◌≢◌, ℕ, ◌+◌, ◌-◌, ◌≤◌, ◌<◌, true, false, ◌⊎◌, inl, inr, refl, sym, ◌∙◌, subst, arith}
use Rattle.std.proofs.lemmas.Bool.{cases_eq, eqb-true}
use Rattle.hs_limits.specs.declared.address.Address.{Address}
use Rattle.hs_model.proofs.Members.{member-append, member_of_filter}
use Rattle.hs_model.proofs.ReachLemmas.Reached.{start, onward}
use Rattle.hs_deletion.specs.Reached.{Member}
use Rattle.hs_deletion.specs.Records.{BlockRecord, RootRecord, begins, root_begins, entered}
use Rattle.hs_deletion.specs.Machine.{Layout, Round, ShardState, Machine, is_at, is_root_at}
use Rattle.hs_deletion.specs.Rounds.{pointers_where, addresses_where, total_in}
use Rattle.hs_deletion.specs.Steps.{blocks_at, roots_at}
use Rattle.hs_deletion.specs.Anchors.{IsReachedIn}
use Rattle.hs_deletion.specs.History.{MayEnter}
use Rattle.hs_deletion.specs.Promises.{HasNoWrongZero, IsAtTheLast, HasEachZero}
use Rattle.hs_deletion.specs.Clocks.{label_of, IsRunning, AreClocksRight}
use Rattle.hs_deletion.specs.Invariants.{IsBlockRight, IsRootRight, AreRaisedReached, IsNear, HasSupport, AreReachedSupported, AreReachedPresent, HasNoMissedZero, IsRight}
use Rattle.hs_deletion.proofs.TestLemmas.{begins_tells, root_begins_tells}
use Rattle.hs_deletion.proofs.RoundLemmas.{member_of_pointers_where, member_of_addresses_where}
use Rattle.hs_deletion.proofs.ClockLemmas.{beside, near, running_of, raised_was_sent}
use Rattle.hs_deletion.proofs.SentLemmas.{new_round, other_rounds, totals_stay, labels_stay, clocks_sent}
use Rattle.hs_deletion.proofs.ReachLemmas.{not_before_less, reached_earlier}
use Rattle.hs_deletion.proofs.StepLemmas.{state_here, state_there, epoch_more, each_block, each_root, other_before, distinct_changed, homes_changed, founded_changed, reached_before, reached_after, there_after, supported_after}
use Rattle.hs_deletion.proofs.EnterLemmas.{epoch_of, stepped, new, round_of, change_of, root_change_of, idle, changed, keeps, no_zero_here, entered_is, root_entered_is, completed_same, counts_entered}

module _ (layout : Layout) (m : Machine) (right : IsRight layout m) (g : ℕ) (may : MayEnter layout m g) where
  abbrev now : ℕ
  now = epoch_of layout m right g may

  abbrev n : Machine
  n = stepped layout m right g may

  abbrev t : ShardState
  t = new layout m right g may

  abbrev round : Round
  round = round_of layout m right g may

  abbrev change : BlockRecord → BlockRecord
  change = change_of layout m right g may

  abbrev root_change : RootRecord → RootRecord
  root_change = root_change_of layout m right g may

  sent_level : (m.states g).sent ≡ (m.states g).completed
  sent_level = (idle layout m right g may).level

  row_epoch : (label_of layout m.states (m.states g).sent).epoch ≡ now
  row_epoch = rw sent_level (idle layout m right g may).of_epoch

  row_round : (label_of layout m.states (m.states g).sent).round ≡ 0
  row_round = rw sent_level (idle layout m right g may).of_round

  clocks : AreClocksRight layout n.states
  clocks = clocks_sent layout m.states right.clocks g may.within round t refl refl (inr row_round) (inl refl)
      (record { unswept = omega (arith, may.is_swept); ahead = omega (arith, sent_level); of_epoch = (idle layout m right g may).of_epoch; of_round = (idle layout m right g may).of_round })
      (λ h lh o. (right.clocks g may.within).come h lh)

  forth : (run : ℕ) (a : Address) → IsReachedIn m run a → IsReachedIn n run a
  forth run = reached_after m n change root_change (changed layout m right g may) run (keeps layout m right g may run)

  back : (run : ℕ) (a : Address) → IsReachedIn n run a → IsReachedIn m run a
  back = reached_before m n change root_change (changed layout m right g may)

  each : (P : BlockRecord → Type 0) → ((b : BlockRecord) → Member b m.blocks → P (change b)) → (c : BlockRecord) → Member c n.blocks → P c
  each = each_block m n change root_change (changed layout m right g may)

  is : (b : BlockRecord) → Member b m.blocks → ((layout.home b.address ≡ g) × (change b ≡ record b { counted = true })) ⊎ ((layout.home b.address ≢ g) × (change b ≡ b))
  is = entered_is layout m right g may

  blocks : (b : BlockRecord) → Member b n.blocks → IsBlockRight (n.states (layout.home b.address)) b
  blocks = each (λ b. IsBlockRight (n.states (layout.home b.address)) b) (λ b k. elim (is b k) [
    | inl h ↦ rw (h.1, state_here g t m.states (layout.home b.address) h.0) (one b (rw h.0 at (right.blocks b k)) (no_zero_here layout m right g may b k h.0))
    | inr o ↦ rw (o.1, state_there g t m.states (layout.home b.address) o.0) (right.blocks b k)
  ])
    where
      one : (b : BlockRecord) → IsBlockRight (m.states g) b → ¬ (b.zero ≡ true) → IsBlockRight t (record b { counted = true })
      one b r z = record {
        born = r.born;
        mark = omega (arith, r.mark);
        uncounted = inl refl;
        counted = λ e. omega (arith, r.born, r.mark);
        running = λ run l. refl;
        is_zero = λ e. absurd (z e);
      }

  homes : (r : RootRecord) → Member r n.roots → r.home < layout.shards
  homes = homes_changed m n change root_change (changed layout m right g may) layout.shards right.homes

  roots : (r : RootRecord) → Member r n.roots → IsRootRight (n.states r.home) r
  roots = each_root m n change root_change (changed layout m right g may) (λ r. IsRootRight (n.states r.home) r) (λ r k. elim (root_entered_is layout m right g may r k) [
    | inl h ↦ rw (h.1, state_here g t m.states r.home h.0) (one r (subst (λ (h : ℕ). IsRootRight (m.states h) r) h.0 (right.roots r k)))
    | inr o ↦ rw (o.1, state_there g t m.states r.home o.0) (right.roots r k)
  ])
    where
      one : (r : RootRecord) → IsRootRight (m.states g) r → IsRootRight t (record r { counted = true })
      one r q = record {
        created = omega (arith, q.created);
        dropped = q.dropped;
        uncounted = inl refl;
        counted = λ e. omega (arith, q.created);
        running = λ run l. refl;
        released = λ run l c. absurd (omega (arith, l));
      }

  -- what round 0 raises is reached: its blocks were given, and its roots put, in the epoch before
  first_reached : (a : Address) → Member a round.raises → IsReachedIn m now a
  first_reached a k = elim (member-append a (pointers_where (begins now) (blocks_at layout g m.blocks)) (addresses_where (root_begins now) (roots_at g m.roots)) k) [
    | inl p ↦ (
        let q = member_of_pointers_where a (begins now) (blocks_at layout g m.blocks) p in
        let here = member_of_filter (is_at layout g) q.0 m.blocks q.1 in
        let u : q.0.counted ≡ false = begins_tells now q.0 q.2 in
        let r : IsBlockRight (m.states g) q.0 = rw (eqb-true (layout.home q.0.address) g here.1) at (right.blocks q.0 here.0) in
        onward {a = q.0.address} (start (inl (record { block = q.0; stands = here.0; here = refl; since = lately q.0 r u }))) (record { block = q.0; stands = here.0; here = refl; pointer = q.3 })
        )
    | inr p ↦ (
        let q = member_of_addresses_where a (root_begins now) (roots_at g m.roots) p in
        let here = member_of_filter (is_root_at g) q.0 m.roots q.1 in
        let u : q.0.counted ≡ false = root_begins_tells now q.0 q.2 in
        let r : IsRootRight (m.states g) q.0 = subst (λ (h : ℕ). IsRootRight (m.states h) q.0) (eqb-true q.0.home g here.1) (right.roots q.0 here.0) in
        start (inr (record { root = q.0; kept = here.0; to = q.3; counts = not_before_less (now - 1) q.0.created q.0.dropped (root_lately q.0 r u) r.dropped }))
        )
  ]
    where
      lately : (b : BlockRecord) → IsBlockRight (m.states g) b → b.counted ≡ false → now - 1 ≤ b.mark
      lately b r u = elim r.uncounted [ inl c ↦ cc | inr e ↦ omega (arith, e) ]

      root_lately : (r : RootRecord) → IsRootRight (m.states g) r → r.counted ≡ false → now - 1 ≤ r.created
      root_lately b r u = elim r.uncounted [ inl c ↦ cc | inr e ↦ omega (arith, e) ]

  raised : AreRaisedReached layout n
  raised h k a lh up le = elim (from (cases_eq k (m.states g).sent) (cases_eq h g)) [
    | inl old ↦ rw (labels_stay layout m.states right.clocks g may.within round t refl refl k (low old)) (forth (label_of layout m.states k).epoch a (right.raised h k a lh old (rw (completed_same layout m right g may (layout.home a)) at le)))
    | inr q ↦ rw (q.0, labels_stay layout m.states right.clocks g may.within round t refl refl (m.states g).sent (omega arith), row_epoch) (forth now a (first_reached a q.1))
  ]
    where
      low : Member a ((m.states h).rounds k).raises → k ≤ (m.states g).sent
      low old = let sent = raised_was_sent layout m.states right.clocks h k a lh old in let come = (right.clocks h lh).come g may.within in elim (right.clocks h lh).phase [ inl p ↦ omega (arith, p.ahead, sent, come) | inr p ↦ omega (arith, p.level, sent, come) ]

      from : (k ≡ (m.states g).sent) ⊎ (k ≢ (m.states g).sent) → (h ≡ g) ⊎ (h ≢ g) → Member a ((m.states h).rounds k).raises ⊎ ((k ≡ (m.states g).sent) × Member a round.raises)
      from (inl e) (inl q) = inr (e, rw (q, e, new_round layout m.states right.clocks g may.within round t refl refl) at up)
      from (inl e) (inr o) = inl (rw (state_there g t m.states h o) at up)
      from (inr d) q = inl (rw (other_rounds layout m.states right.clocks g may.within round t refl refl h k d) at up)

  no_wrong_zero : HasNoWrongZero layout n
  no_wrong_zero = each (λ b. b.zero ≡ true → IsReachedIn n (n.states (layout.home b.address)).epoch b.address → b.mark ≡ (n.states (layout.home b.address)).epoch) (λ b k. elim (is b k) [
    | inl h ↦ rw (h.1) (λ z r. absurd (no_zero_here layout m right g may b k h.0 z))
    | inr o ↦ rw (o.1, state_there g t m.states (layout.home b.address) o.0) (λ z r. right.no_wrong_zero b k z (back (m.states (layout.home b.address)).epoch b.address r))
  ])

  anchored : AreReachedPresent layout n
  anchored h a lh r =
      let old : IsReachedIn m (m.states h).epoch a = reached_earlier m (m.states h).epoch (n.states h).epoch (epoch_more g t m.states (omega arith) h) a (back (n.states h).epoch a r) in
      there_after m n change root_change (changed layout m right g may) (m.states h).epoch (keeps layout m right g may (m.states h).epoch) a old (right.anchored h a lh old)

  searched : HasNoMissedZero layout n
  searched = each (λ b. (n.states (layout.home b.address)).swept < (n.states (layout.home b.address)).epoch → 1 ≤ (n.states (layout.home b.address)).round → b.counted ≡ true → b.zero ≡ false → b.mark + 2 ≤ (n.states (layout.home b.address)).epoch → 1 ≤ b.count) (λ b k. elim (is b k) [
    | inl h ↦ rw (h.1, state_here g t m.states (layout.home b.address) h.0) (λ run l c f o. absurd (omega (arith, l)))
    | inr o ↦ rw (o.1, state_there g t m.states (layout.home b.address) o.0) (right.searched b k)
  ])

  supported : AreReachedSupported layout n
  supported run range a r = elim (old_or_top (cases_eq run (now + 1))) [
    | inl old ↦ (let r' = back run a r in supported_after m n change root_change (changed layout m right g may) run (keeps layout m right g may run) layout solid a r' (right.supported run old a r'))
    | inr top ↦ highest top a r
  ]
    where
      old_or_top : (run ≡ now + 1) ⊎ (run ≢ now + 1) → IsNear layout m run ⊎ ((h : ℕ) → h < layout.shards → (n.states h).epoch < run)
      old_or_top (inl e) = inr (λ h lh. elim (cases_eq h g) [ inl q ↦ rw (state_here g t m.states h q) (omega (arith, e)) | inr o ↦ rw (state_there g t m.states h o) (omega (arith, e, near layout m.states right.clocks h g lh may.within)) ])
      old_or_top (inr o) = inl (record {
        near = λ h lh. elim (cases_eq h g) [
          | inl q ↦ (let x : run ≤ now + 1 = rw (state_here g t m.states h q) at (range.near h lh) in rw q (omega (arith, o, x)))
          | inr p ↦ rw (state_there g t m.states h p) at (range.near h lh)
        ];
        some = range.some;
        within = range.within;
        low = omega (arith, range.low, epoch_more g t m.states (omega arith) range.some);
      })

      solid : (b : BlockRecord) → Member b m.blocks → IsReachedIn m run b.address → (b.zero ≡ true → (m.states (layout.home b.address)).epoch ≢ run) → (change b).zero ≡ true → (n.states (layout.home b.address)).epoch ≢ run
      solid b k r s = elim (is b k) [
        | inl h ↦ rw (h.1) (λ z. absurd (no_zero_here layout m right g may b k h.0 z))
        | inr o ↦ rw (o.1, state_there g t m.states (layout.home b.address) o.0) s
      ]

      -- above all epochs everything is old
      highest : ((h : ℕ) → h < layout.shards → (n.states h).epoch < run) → (a : Address) → IsReachedIn n run a → HasSupport layout n run a
      highest top a (start (inl given)) = inl given
      highest top a (start (inr o)) = inr (inl (record { root = o.root; kept = o.kept; to = o.to; counts = o.counts; old = omega (arith, (roots o.root o.kept).created, top o.root.home (homes o.root o.kept)) }))
      highest top a (onward {a = c} r p) =
          let q = blocks p.block p.stands in
          let l = top (layout.home p.block.address) (layout.within p.block.address) in
          inr (inr (record { block = p.block; stands = p.stands; pointer = p.pointer; is_reached = rw (p.here) r; born = omega (arith, q.born, q.mark, l); solid = λ z e. omega (arith, l, e) }))

  exact_zero : HasEachZero layout n
  exact_zero k last b stands away = elim (cases_eq k g) [
    | inl q ↦ (let l : 1 ≤ t.round = rw (state_here g t m.states k q) at last.late in absurd (omega (arith, l)))
    | inr o ↦ other o
  ]
    where
      other : k ≢ g → (b.zero ≡ true) × (b.mark < (n.states k).epoch)
      other o = rw (state_there g t m.states k o) (right.exact_zero k was b (other_before layout g (entered now) m n root_change (changed layout m right g may) b stands (λ q. o (sym away.of_shard ∙ q))) (record {
        of_shard = away.of_shard;
        older = rw (state_there g t m.states k o) at away.older;
        unreached = λ r. away.unreached (rw (state_there g t m.states k o) (forth (m.states k).epoch b.address r));
      }))
        where
          sent_there : (h : ℕ) → h < layout.shards → (m.states k).completed < (n.states h).sent
          sent_there h lh = rw (state_there g t m.states k o) at (last.sent h lh)

          run : IsRunning layout m.states (m.states k)
          run = running_of layout m.states right.clocks k last.within (rw (state_there g t m.states k o) at (sent_there k last.within))

          late : 1 ≤ (m.states k).round
          late = rw (state_there g t m.states k o) at last.late

          -- the row isn't the one that begins now
          before : (m.states k).completed < (m.states g).sent
          before = elim (beside layout m.states right.clocks k g last.within may.within) [
            | inl b ↦ absurd (omega (arith, b.2, run.of_round, (idle layout m right g may).of_round, late))
            | inr (inl b) ↦ omega (arith, b.0, sent_level)
            | inr (inr b) ↦ (let x : (m.states k).completed < (m.states g).sent + 1 = rw (state_here g t m.states g refl) at (sent_there g may.within) in absurd (omega (arith, b.0, x, sent_level)))
          ]

          was : IsAtTheLast layout m k
          was = record {
            within = last.within;
            late = late;
            sent = λ h lh. elim (cases_eq h g) [ inl q ↦ rw q before | inr p ↦ rw (state_there g t m.states h p) at (sent_there h lh) ];
            none = let x : total_in layout n.states (m.states k).completed ≡ 0 = rw (state_there g t m.states k o) at last.none in omega (arith, x, totals_stay layout m.states right.clocks g may.within round t refl refl (m.states k).completed (omega (arith, before)));
          }

  pub right_entered : IsRight layout n
  right_entered = record {
    clocks = clocks;
    distinct = distinct_changed m n change root_change (changed layout m right g may) right.distinct;
    blocks = blocks;
    homes = homes;
    roots = roots;
    counts = counts_entered layout m right g may;
    raised = raised;
    supported = supported;
    no_wrong_zero = no_wrong_zero;
    anchored = anchored;
    founded = founded_changed m n change root_change (changed layout m right g may) right.founded;
    searched = searched;
    exact_zero = exact_zero;
  }
