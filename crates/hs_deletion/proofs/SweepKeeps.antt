-- A sweep keeps the machine right.
use Rattle.std.proofs.Common.{◌≡◌, ◌≢◌, ℕ, ◌+◌, ◌≤◌, ◌<◌, true, false, ◌⊎◌, inl, inr, refl, sym, ◌∙◌, subst, arith}
use Rattle.std.proofs.lemmas.Bool.{cases_eq}
use Rattle.hs_limits.specs.declared.address.Address.{Address}
use Rattle.hs_deletion.specs.Reached.{Member}
use Rattle.hs_deletion.specs.Records.{BlockRecord, RootRecord, spared, renewed}
use Rattle.hs_deletion.specs.Machine.{Layout, ShardState, Machine}
use Rattle.hs_deletion.specs.Rounds.{total_in}
use Rattle.hs_deletion.specs.Anchors.{IsReachedIn}
use Rattle.hs_deletion.specs.Promises.{HasNoWrongZero, IsAtTheLast, HasEachZero}
use Rattle.hs_deletion.specs.Clocks.{label_of, AreClocksRight}
use Rattle.hs_deletion.specs.Invariants.{IsBlockRight, IsRootRight, AreRaisedReached, IsNear, AreReachedSupported, AreReachedPresent, HasNoMissedZero, IsRight}
use Rattle.hs_deletion.proofs.ClockLemmas.{epoch_of_row}
use Rattle.hs_deletion.proofs.SentLemmas.{same_rounds, totals_same, labels_same, clocks_ended}
use Rattle.hs_deletion.proofs.StepLemmas.{state_here, state_there, epoch_same, completed_more, other_before, distinct_changed, founded_changed, reached_before, reached_after, there_after, supported_after}
use Rattle.hs_deletion.proofs.SweepLemmas.{epoch_of, stepped, new, change_of, goes, run, level_all, changed, kept_from, keeps, spared_is, spared_mark, counts_swept}

module _ (layout : Layout) (m : Machine) (right : IsRight layout m) (g : ℕ) (last : IsAtTheLast layout m g) where
  abbrev now : ℕ
  now = epoch_of layout m right g last

  abbrev n : Machine
  n = stepped layout m right g last

  abbrev t : ShardState
  t = new layout m right g last

  abbrev change : BlockRecord → BlockRecord
  change = change_of layout m right g last

  levels : (h : ℕ) → h < layout.shards → now ≤ (m.states h).epoch
  levels = level_all layout m right g last

  clocks : AreClocksRight layout n.states
  clocks = clocks_ended layout m.states right.clocks g last.within t refl refl refl refl refl last.sent last.late last.none

  label_same : (k : ℕ) → label_of layout n.states k ≡ label_of layout m.states k
  label_same = labels_same layout m.states right.clocks g last.within t refl refl

  sent_same : (k : ℕ) → (n.states k).sent ≡ (m.states k).sent
  sent_same k = elim (cases_eq k g) [ inl e ↦ rw (state_here g t m.states k e, e) refl | inr o ↦ rw (state_there g t m.states k o) refl ]

  forth : (run : ℕ) → now ≤ run → (a : Address) → IsReachedIn m run a → IsReachedIn n run a
  forth run le = reached_after m n change (λ r. r) (changed layout m right g last) run (keeps layout m right g last run le)

  back : (run : ℕ) (a : Address) → IsReachedIn n run a → IsReachedIn m run a
  back = reached_before m n change (λ r. r) (changed layout m right g last)

  each : (P : BlockRecord → Type 0) → ((b : BlockRecord) → Member b m.blocks → goes layout m right g last b ≡ false → P (change b)) → (c : BlockRecord) → Member c n.blocks → P c
  each P f c k = let p = kept_from layout m right g last c k in rw (← p.3) (f p.0 p.1 p.2)

  is : (b : BlockRecord) → ((layout.home b.address ≡ g) × (b.zero ≡ true) × (change b ≡ renewed b)) ⊎ (((layout.home b.address ≢ g) ⊎ (b.zero ≡ false)) × (change b ≡ b))
  is = spared_is layout m right g last

  blocks : (b : BlockRecord) → Member b n.blocks → IsBlockRight (n.states (layout.home b.address)) b
  blocks = each (λ b. IsBlockRight (n.states (layout.home b.address)) b) (λ b k stays. elim (is b) [
    | inl s ↦ rw (s.2, state_here g t m.states (layout.home b.address) s.0) (uncounted b (rw s.0 at (right.blocks b k)) (spared_mark layout m right g last b s.0 s.1 stays))
    | inr o ↦ rw (o.1) (elim (cases_eq (layout.home b.address) g) [
      | inr other ↦ rw (state_there g t m.states (layout.home b.address) other) (right.blocks b k)
      | inl this ↦ rw (state_here g t m.states (layout.home b.address) this) (plain b (rw this at (right.blocks b k)) (elim o.0 [ inl n ↦ absurd (n this) | inr z ↦ z ]))
    ])
  ])
    where
      uncounted : (b : BlockRecord) → IsBlockRight (m.states g) b → now ≤ b.mark → IsBlockRight t (renewed b)
      uncounted b r le = record {
        born = r.born;
        mark = r.mark;
        uncounted = inr (omega (arith, r.mark, le));
        counted = λ e. cc;
        running = λ run l. absurd (omega (arith, run));
        is_zero = λ e. cc;
      }

      plain : (b : BlockRecord) → IsBlockRight (m.states g) b → b.zero ≡ false → IsBlockRight t b
      plain b r z = record {
        born = r.born;
        mark = r.mark;
        uncounted = r.uncounted;
        counted = r.counted;
        running = λ run l. absurd (omega (arith, run));
        is_zero = λ e. cc;
      }

  roots : (r : RootRecord) → Member r n.roots → IsRootRight (n.states r.home) r
  roots r k = elim (cases_eq r.home g) [
    | inr o ↦ rw (state_there g t m.states r.home o) (right.roots r k)
    | inl e ↦ rw (state_here g t m.states r.home e) (kept (subst (λ (h : ℕ). IsRootRight (m.states h) r) e (right.roots r k)))
  ]
    where
      kept : IsRootRight (m.states g) r → IsRootRight t r
      kept q = record {
        created = q.created;
        dropped = q.dropped;
        uncounted = q.uncounted;
        counted = q.counted;
        running = λ run l. absurd (omega (arith, run));
        released = λ run l c. absurd (omega (arith, run));
      }

  raised : AreRaisedReached layout n
  raised h k a lh up le =
      let le' : (m.states (layout.home a)).completed ≤ k = omega (arith, le, completed_more g t m.states (omega arith) (layout.home a)) in
      let low : now ≤ (label_of layout m.states k).epoch = omega (arith, epoch_of_row layout m.states right.clocks (layout.home a) k (layout.within a) le', levels (layout.home a) (layout.within a)) in
      rw (label_same k) (forth (label_of layout m.states k).epoch low a (right.raised h k a lh (rw (same_rounds layout m.states right.clocks g last.within t refl refl h k) at up) le'))

  no_wrong_zero : HasNoWrongZero layout n
  no_wrong_zero = each (λ b. b.zero ≡ true → IsReachedIn n (n.states (layout.home b.address)).epoch b.address → b.mark ≡ (n.states (layout.home b.address)).epoch) (λ b k stays. elim (is b) [
    | inl s ↦ rw (s.2) (λ z r. cc)
    | inr o ↦ rw (o.1, epoch_same g t m.states refl (layout.home b.address)) (λ z r. right.no_wrong_zero b k z (back (m.states (layout.home b.address)).epoch b.address r))
  ])

  anchored : AreReachedPresent layout n
  anchored h a lh r =
      let old : IsReachedIn m (m.states h).epoch a = rw (epoch_same g t m.states refl h) at (back (n.states h).epoch a r) in
      there_after m n change (λ r. r) (changed layout m right g last) (m.states h).epoch (keeps layout m right g last (m.states h).epoch (levels h lh)) a old (right.anchored h a lh old)

  searched : HasNoMissedZero layout n
  searched = each (λ b. (n.states (layout.home b.address)).swept < (n.states (layout.home b.address)).epoch → 1 ≤ (n.states (layout.home b.address)).round → b.counted ≡ true → b.zero ≡ false → b.mark + 2 ≤ (n.states (layout.home b.address)).epoch → 1 ≤ b.count) (λ b k stays. elim (is b) [
    | inl s ↦ rw (s.2) (λ run l c f o. cc)
    | inr o ↦ rw (o.1) (elim (cases_eq (layout.home b.address) g) [
      | inr other ↦ rw (state_there g t m.states (layout.home b.address) other) (right.searched b k)
      | inl this ↦ rw (state_here g t m.states (layout.home b.address) this) (λ run l c f o. absurd (omega (arith, run)))
    ])
  ])

  supported : AreReachedSupported layout n
  supported run range a r =
      let old_range : IsNear layout m run = record { near = λ h lh. omega (arith, range.near h lh, epoch_same g t m.states refl h); some = range.some; within = range.within; low = omega (arith, range.low, epoch_same g t m.states refl range.some) } in
      let le : now ≤ run = omega (arith, old_range.low, levels range.some range.within) in
      let old = back run a r in
      supported_after m n change (λ r. r) (changed layout m right g last) run (keeps layout m right g last run le) layout solid a old (right.supported run old_range a old)
    where
      solid : (b : BlockRecord) → Member b m.blocks → IsReachedIn m run b.address → (b.zero ≡ true → (m.states (layout.home b.address)).epoch ≢ run) → (change b).zero ≡ true → (n.states (layout.home b.address)).epoch ≢ run
      solid b k r s = elim (is b) [
        | inl h ↦ rw (h.2) (λ e. cc)
        | inr o ↦ rw (o.1, epoch_same g t m.states refl (layout.home b.address)) s
      ]

  exact_zero : HasEachZero layout n
  exact_zero k end b stands away = elim (cases_eq k g) [
    | inl q ↦ (let l : t.completed < t.sent = rw (state_here g t m.states k q) at (end.sent k end.within) in absurd (omega (arith, l, (run layout m right g last).ahead)))
    | inr o ↦ (
        let was : IsAtTheLast layout m k = record {
          within = end.within;
          late = rw (state_there g t m.states k o) at end.late;
          sent = λ h lh. (let x : (m.states k).completed < (n.states h).sent = rw (state_there g t m.states k o) at (end.sent h lh) in omega (arith, x, sent_same h));
          none = (let x : total_in layout n.states (m.states k).completed ≡ 0 = rw (state_there g t m.states k o) at end.none in omega (arith, x, totals_same layout m.states right.clocks g last.within t refl refl (m.states k).completed));
        } in
        rw (state_there g t m.states k o) (right.exact_zero k was b (other_before layout g spared m n (λ r. r) (changed layout m right g last) b stands (λ q. o (sym away.of_shard ∙ q))) (record {
          of_shard = away.of_shard;
          older = rw (state_there g t m.states k o) at away.older;
          unreached = λ r. away.unreached (rw (state_there g t m.states k o) (forth (m.states k).epoch (levels k end.within) b.address r));
        }))
        )
  ]

  pub right_swept : IsRight layout n
  right_swept = record {
    clocks = clocks;
    distinct = distinct_changed m n change (λ r. r) (changed layout m right g last) right.distinct;
    blocks = blocks;
    homes = right.homes;
    roots = roots;
    counts = counts_swept layout m right g last;
    raised = raised;
    supported = supported;
    no_wrong_zero = no_wrong_zero;
    anchored = anchored;
    founded = founded_changed m n change (λ r. r) (changed layout m right g last) right.founded;
    searched = searched;
    exact_zero = exact_zero;
  }
