-- A search keeps the machine right.
use Rattle.std.proofs.Common.{◌≡◌, ◌≢◌, ℕ, zero, suc, ◌+◌, ◌≤◌, ◌<◌, Bool, true, false, not, ◌&&◌, [], ◌⊎◌, inl, inr, refl, subst, arith, map}
use Rattle.std.proofs.lemmas.Bool.{not-true, eq-eqb, cases_eq, cases_lt}
use Rattle.hs_limits.specs.declared.address.Address.{Address}
use Rattle.hs_model.proofs.Members.{member_of_filter}
use Rattle.hs_deletion.specs.Reached.{Member}
use Rattle.hs_deletion.specs.Records.{BlockRecord, RootRecord, is_found, is_released}
use Rattle.hs_deletion.specs.Machine.{Layout, Round, ShardState, Machine, is_root_at}
use Rattle.hs_deletion.specs.Rounds.{total_in}
use Rattle.hs_deletion.specs.Steps.{blocks_at, roots_at, recounted_at}
use Rattle.hs_deletion.specs.Anchors.{PointsTo, IsReachedIn}
use Rattle.hs_deletion.specs.Counts.{AreCountsRight}
use Rattle.hs_deletion.specs.History.{MayComplete}
use Rattle.hs_deletion.specs.Promises.{HasNoWrongZero, IsAtTheLast, HasEachZero}
use Rattle.hs_deletion.specs.Clocks.{label_of, IsRunning, AreClocksRight}
use Rattle.hs_deletion.specs.Invariants.{IsFounded, IsZeroRight, IsBlockRight, IsRootRight, AreRaisedReached, IsNear, AreReachedSupported, AreReachedPresent, HasNoMissedZero, IsRight}
use Rattle.hs_deletion.proofs.TestLemmas.{unreleased_counts}
use Rattle.hs_deletion.proofs.RoundLemmas.{pointers_where_none, addresses_where_none}
use Rattle.hs_deletion.proofs.ClockLemmas.{running_of, epoch_of_row, raised_was_sent}
use Rattle.hs_deletion.proofs.SentLemmas.{new_round, other_rounds, totals_stay, labels_stay, clocks_sent}
use Rattle.hs_deletion.proofs.WayLemmas.{raised_late}
use Rattle.hs_deletion.proofs.StepLemmas.{state_here, state_there, epoch_same, completed_more, each_block, distinct_changed, homes_changed, founded_changed, reached_before, reached_after, there_after, supported_after}
use Rattle.hs_deletion.proofs.SearchLemmas.{epoch_of, row, stepped, new, round_of, change_of, goes, count, level_all, run, next_row, changed, keeps, IsNewZero, found, new_zero_unreached}
use Rattle.hs_deletion.proofs.SearchCounts.{counts_searched}
use Rattle.hs_deletion.proofs.LastLemmas.{all_running, zero_at_the_last}

module _ (layout : Layout) (m : Machine) (right : IsRight layout m) (g : ℕ) (may : MayComplete layout m g) (more : ((m.states g).round ≡ 0) ⊎ (1 ≤ total_in layout m.states (m.states g).completed)) where
  abbrev now : ℕ
  now = epoch_of layout m right g may more

  abbrev next : ℕ
  next = row layout m right g may more

  abbrev n : Machine
  n = stepped layout m right g may more

  abbrev t : ShardState
  t = new layout m right g may more

  abbrev round : Round
  round = round_of layout m right g may more

  abbrev change : BlockRecord → BlockRecord
  change = change_of layout m right g may more

  abbrev fresh : BlockRecord → ℕ
  fresh = count layout m right g may more

  running : IsRunning layout m.states (m.states g)
  running = run layout m right g may more

  levels : (h : ℕ) → h < layout.shards → ((m.states h).epoch ≡ now) × ((m.states h).swept < (m.states h).epoch)
  levels = level_all layout m right g may more

  next_is : (1 ≤ (label_of layout m.states (next + 1)).round) × ((label_of layout m.states (next + 1)).epoch ≡ now) × ((label_of layout m.states (next + 1)).round ≡ (m.states g).round + 1)
  next_is = next_row layout m right g may more

  lowers_fit : (round.lowers ≡ []) ⊎ (1 ≤ (label_of layout m.states (m.states g).sent).round) × (1 ≤ round.total)
  lowers_fit = rw (running.ahead) (go round.total refl)
    where
      go : (v : ℕ) → round.total ≡ v → (round.lowers ≡ []) ⊎ (1 ≤ (label_of layout m.states (next + 1)).round) × (1 ≤ round.total)
      go zero e = inl (rw (pointers_where_none (is_found now) (map (recounted_at layout g m) (blocks_at layout g m.blocks)) (omega (arith, e)), addresses_where_none (is_released (m.states g).round now) (roots_at g m.roots) (omega (arith, e))) refl)
      go (suc v) e = inr (next_is.0, omega (arith, e))

  clocks : AreClocksRight layout n.states
  clocks = clocks_sent layout m.states right.clocks g may.within round t refl refl (inl refl) lowers_fit
      (record { unswept = running.unswept; ahead = omega (arith, running.ahead); of_epoch = next_is.1; of_round = next_is.2 })
      (λ h lh o. omega (arith, may.sent h lh))

  label_before : (k : ℕ) → k ≤ (m.states g).sent → label_of layout n.states k ≡ label_of layout m.states k
  label_before = labels_stay layout m.states right.clocks g may.within round t refl refl

  forth : (run : ℕ) → now ≤ run → (a : Address) → IsReachedIn m run a → IsReachedIn n run a
  forth run le = reached_after m n change (λ r. r) (changed layout m right g may more) run (keeps layout m right g may more run le)

  back : (run : ℕ) (a : Address) → IsReachedIn n run a → IsReachedIn m run a
  back = reached_before m n change (λ r. r) (changed layout m right g may more)

  each : (P : BlockRecord → Type 0) → ((b : BlockRecord) → Member b m.blocks → P (change b)) → (c : BlockRecord) → Member c n.blocks → P c
  each = each_block m n change (λ r. r) (changed layout m right g may more)

  is : (b : BlockRecord) → ((layout.home b.address ≢ g) × (change b ≡ b))
      ⊎ IsNewZero layout m right g may more b × (change b ≡ record b { count = fresh b; zero = true })
      ⊎ (layout.home b.address ≡ g) × (b.counted ≡ true → b.zero ≡ false → b.mark + 2 ≤ now → 1 ≤ fresh b) × (change b ≡ record b { count = fresh b })
  is = found layout m right g may more

  -- a zero block stays at count 0
  zero_stays : (b : BlockRecord) → Member b m.blocks → layout.home b.address ≡ g → b.zero ≡ true → fresh b ≡ 0
  zero_stays b k e z =
      let r : IsZeroRight (m.states g) b = rw e at ((right.blocks b k).is_zero z) in
      omega (arith, r.none, raised_late layout m.states right.clocks next b.address (omega (arith, r.late, running.of_round)))

  blocks : (b : BlockRecord) → Member b n.blocks → IsBlockRight (n.states (layout.home b.address)) b
  blocks = each (λ b. IsBlockRight (n.states (layout.home b.address)) b) (λ b k. elim (is b) [
    | inl o ↦ rw (o.1, state_there g t m.states (layout.home b.address) o.0) (right.blocks b k)
    | inr (inl z) ↦ rw (z.1, state_here g t m.states (layout.home b.address) z.0.here) (new_one b (rw z.0.here at (right.blocks b k)) z.0)
    | inr (inr h) ↦ rw (h.2, state_here g t m.states (layout.home b.address) h.0) (old_one b (rw h.0 at (right.blocks b k)) (zero_stays b k h.0))
  ])
    where
      new_one : (b : BlockRecord) → IsBlockRight (m.states g) b → IsNewZero layout m right g may more b → IsBlockRight t (record b { count = fresh b; zero = true })
      new_one b r z = record {
        born = r.born;
        mark = r.mark;
        uncounted = r.uncounted;
        counted = r.counted;
        running = r.running;
        is_zero = λ e. record { counted = z.counted; none = z.none; running = (levels g may.within).1; late = omega arith; mark = inl z.old };
      }

      old_one : (b : BlockRecord) → IsBlockRight (m.states g) b → (b.zero ≡ true → fresh b ≡ 0) → IsBlockRight t (record b { count = fresh b })
      old_one b r f = record {
        born = r.born;
        mark = r.mark;
        uncounted = r.uncounted;
        counted = r.counted;
        running = r.running;
        is_zero = λ e. let z = r.is_zero e in record { counted = z.counted; none = f e; running = z.running; late = omega arith; mark = z.mark };
      }

  homes : (r : RootRecord) → Member r n.roots → r.home < layout.shards
  homes = homes_changed m n change (λ r. r) (changed layout m right g may more) layout.shards right.homes

  roots : (r : RootRecord) → Member r n.roots → IsRootRight (n.states r.home) r
  roots r k =
      let old = member_of_filter (λ r. not (goes layout m right g may more r)) r m.roots k in
      elim (cases_eq r.home g) [
        | inr o ↦ rw (state_there g t m.states r.home o) (right.roots r old.0)
        | inl e ↦ rw (state_here g t m.states r.home e) (kept (subst (λ (h : ℕ). IsRootRight (m.states h) r) e (right.roots r old.0)) (not-true _ old.1) e)
      ]
    where
      kept : IsRootRight (m.states g) r → goes layout m right g may more r ≡ false → r.home ≡ g → IsRootRight t r
      kept q f e = record {
        created = q.created;
        dropped = q.dropped;
        uncounted = q.uncounted;
        counted = q.counted;
        running = q.running;
        released = λ run late c. elim (cases_lt 0 (m.states g).round) [
          | inl l ↦ q.released (levels g may.within).1 l c
          | inr z ↦ unreleased_counts (m.states g).round now r (omega (arith, z)) c (second (is_root_at g r) (is_released (m.states g).round now r) (eq-eqb r.home g e) f)
        ];
      }
        where
          second : (a b : Bool) → a ≡ true → a && b ≡ false → b ≡ false
          second true b p f = f
          second false b p f = cc

  raised : AreRaisedReached layout n
  raised h k a lh up le =
      let old : Member a ((m.states h).rounds k).raises = was (cases_eq k (m.states g).sent) (cases_eq h g) in
      let le' : (m.states (layout.home a)).completed ≤ k = omega (arith, le, completed_more g t m.states (omega arith) (layout.home a)) in
      let low : now ≤ (label_of layout m.states k).epoch = omega (arith, epoch_of_row layout m.states right.clocks (layout.home a) k (layout.within a) le', (levels (layout.home a) (layout.within a)).0) in
      rw (label_before k (sent_before old)) (forth (label_of layout m.states k).epoch low a (right.raised h k a lh old le'))
    where
      none : Member a [] → ⊥
      none q = elim q [ ]

      was : (k ≡ (m.states g).sent) ⊎ (k ≢ (m.states g).sent) → (h ≡ g) ⊎ (h ≢ g) → Member a ((m.states h).rounds k).raises
      was (inl e) (inl q) = absurd (none (rw (q, e, new_round layout m.states right.clocks g may.within round t refl refl) at up))
      was (inl e) (inr o) = rw (state_there g t m.states h o) at up
      was (inr d) q = rw (other_rounds layout m.states right.clocks g may.within round t refl refl h k d) at up

      sent_before : Member a ((m.states h).rounds k).raises → k ≤ (m.states g).sent
      sent_before old = let sent = raised_was_sent layout m.states right.clocks h k a lh old in let come = (right.clocks h lh).come g may.within in elim (right.clocks h lh).phase [ inl p ↦ omega (arith, p.ahead, sent, come) | inr p ↦ omega (arith, p.level, sent, come) ]

  no_wrong_zero : HasNoWrongZero layout n
  no_wrong_zero = each (λ b. b.zero ≡ true → IsReachedIn n (n.states (layout.home b.address)).epoch b.address → b.mark ≡ (n.states (layout.home b.address)).epoch) (λ b k. elim (is b) [
    | inl o ↦ rw (o.1, state_there g t m.states (layout.home b.address) o.0) (λ z r. right.no_wrong_zero b k z (back (m.states (layout.home b.address)).epoch b.address r))
    | inr (inl z) ↦ rw (z.1, state_here g t m.states (layout.home b.address) z.0.here) (λ e r. absurd (new_zero_unreached layout m right g may more b k z.0 (back now b.address r)))
    | inr (inr h) ↦ rw (h.2, state_here g t m.states (layout.home b.address) h.0) (λ e r. let old = rw h.0 at (right.no_wrong_zero b k e) in old (back now b.address r))
  ])

  anchored : AreReachedPresent layout n
  anchored h a lh r =
      let old : IsReachedIn m (m.states h).epoch a = rw (epoch_same g t m.states refl h) at (back (n.states h).epoch a r) in
      there_after m n change (λ r. r) (changed layout m right g may more) (m.states h).epoch (keeps layout m right g may more (m.states h).epoch (omega (arith, (levels h lh).0))) a old (right.anchored h a lh old)

  searched : HasNoMissedZero layout n
  searched = each (λ b. (n.states (layout.home b.address)).swept < (n.states (layout.home b.address)).epoch → 1 ≤ (n.states (layout.home b.address)).round → b.counted ≡ true → b.zero ≡ false → b.mark + 2 ≤ (n.states (layout.home b.address)).epoch → 1 ≤ b.count) (λ b k. elim (is b) [
    | inl o ↦ rw (o.1, state_there g t m.states (layout.home b.address) o.0) (right.searched b k)
    | inr (inl z) ↦ rw (z.1, state_here g t m.states (layout.home b.address) z.0.here) (λ run late c f o. cc)
    | inr (inr h) ↦ rw (h.2, state_here g t m.states (layout.home b.address) h.0) (λ run late c f o. h.1 c f o)
  ])

  supported : AreReachedSupported layout n
  supported run range a r =
      let old_range : IsNear layout m run = record { near = λ h lh. omega (arith, range.near h lh, epoch_same g t m.states refl h); some = range.some; within = range.within; low = omega (arith, range.low, epoch_same g t m.states refl range.some) } in
      let le : now ≤ run = omega (arith, old_range.low, (levels range.some range.within).0) in
      let old = back run a r in
      supported_after m n change (λ r. r) (changed layout m right g may more) run (keeps layout m right g may more run le) layout solid a old (right.supported run old_range a old)
    where
      solid : (b : BlockRecord) → Member b m.blocks → IsReachedIn m run b.address → (b.zero ≡ true → (m.states (layout.home b.address)).epoch ≢ run) → (change b).zero ≡ true → (n.states (layout.home b.address)).epoch ≢ run
      solid b k r s = elim (is b) [
        | inl o ↦ rw (o.1, state_there g t m.states (layout.home b.address) o.0) s
        | inr (inl z) ↦ rw (z.1, state_here g t m.states (layout.home b.address) z.0.here) (λ e q. new_zero_unreached layout m right g may more b k z.0 (rw (← q) at r))
        | inr (inr h) ↦ rw (h.2, state_here g t m.states (layout.home b.address) h.0) (rw h.0 at s)
      ]

  counts_after : AreCountsRight layout n
  counts_after = counts_searched layout m right g may more

  founded : (a : Address) → IsFounded (PointsTo n.blocks) a
  founded = founded_changed m n change (λ r. r) (changed layout m right g may more) right.founded

  -- a last row that all have sent is the one that begins now, and none has completed it
  at_the_new : (k : ℕ) → IsAtTheLast layout n k → ((n.states k).completed ≡ next + 1) × ((h : ℕ) → h < layout.shards → ((n.states h).completed ≡ next + 1) × ((n.states h).sent ≡ next + 1 + 1))
  at_the_new k last = (mine, λ h lh. each_one h lh)
    where
      run_k : IsRunning layout n.states (n.states k)
      run_k = running_of layout n.states clocks k last.within (last.sent k last.within)

      g_completed : (n.states g).completed ≡ next + 1
      g_completed = rw (state_here g t m.states g refl) refl

      g_sent : (n.states g).sent ≡ next + 1 + 1
      g_sent = rw (state_here g t m.states g refl) (omega (arith, running.ahead))

      upper : (n.states k).completed ≤ next + 1
      upper = omega (arith, last.sent g may.within, g_sent)

      lower : next ≤ (n.states k).completed
      lower = omega (arith, (clocks g may.within).come k last.within, g_completed, run_k.ahead)

      not_before : ¬ ((n.states k).completed ≡ next)
      not_before e =
          let r : (label_of layout m.states next).round ≡ (n.states k).round = rw (e, label_before next (omega (arith, running.ahead))) at run_k.of_round in
          let none : total_in layout m.states next ≡ 0 = rw (e, totals_stay layout m.states right.clocks g may.within round t refl refl next (omega (arith, running.ahead))) at last.none in
          elim more [ inl z ↦ omega (arith, z, r, running.of_round, last.late) | inr z ↦ omega (arith, z, none) ]

      mine : (n.states k).completed ≡ next + 1
      mine = elim (cases_eq (n.states k).completed next) [ inl e ↦ absurd (not_before e) | inr o ↦ omega (arith, o, upper, lower) ]

      each_one : (h : ℕ) → h < layout.shards → ((n.states h).completed ≡ next + 1) × ((n.states h).sent ≡ next + 1 + 1)
      each_one h lh =
          let low : next + 1 < (n.states h).sent = omega (arith, mine, last.sent h lh) in
          let high : (n.states h).completed ≤ next + 1 = elim (cases_eq h g) [ inl q ↦ rw (state_here g t m.states h q) (omega arith) | inr o ↦ rw (state_there g t m.states h o) (omega (arith, (right.clocks h lh).come g may.within, running.ahead)) ] in
          let r = running_of layout n.states clocks h lh (omega (arith, low, high)) in
          (omega (arith, r.ahead, low, high), omega (arith, r.ahead, low, high))

  exact_zero : HasEachZero layout n
  exact_zero k last b stands away =
      let l = at_the_new k last in
      let run_k = running_of layout n.states clocks k last.within (last.sent k last.within) in
      let late : 1 ≤ (label_of layout n.states (next + 1)).round = (let q : (label_of layout n.states (next + 1)).round ≡ (n.states k).round = rw l.0 at run_k.of_round in omega (arith, q, last.late)) in
      let none : total_in layout n.states (next + 1) ≡ 0 = rw l.0 at last.none in
      let epoch = (all_running layout n clocks blocks homes roots counts_after founded searched (next + 1) l.1 late none k last.within).0 in
      let z = zero_at_the_last layout n clocks blocks homes roots counts_after founded searched (next + 1) l.1 late none b stands (rw epoch at away.older) (rw epoch at away.unreached) in
      (z.0, omega (arith, z.1, epoch))

  pub right_searched : IsRight layout n
  right_searched = record {
    clocks = clocks;
    distinct = distinct_changed m n change (λ r. r) (changed layout m right g may more) right.distinct;
    blocks = blocks;
    homes = homes;
    roots = roots;
    counts = counts_after;
    raised = raised;
    supported = supported;
    no_wrong_zero = no_wrong_zero;
    anchored = anchored;
    founded = founded;
    searched = searched;
    exact_zero = exact_zero;
  }
