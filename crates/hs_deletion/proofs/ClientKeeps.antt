-- A client's entry keeps the machine right.
use Rattle.std.proofs.Common.{◌≡◌, ℕ, ◌+◌, ◌-◌, ◌≤◌, ◌<◌, true, List, ◌⊎◌, inl, inr, refl, sym, ◌∙◌, ap, subst, arith}
use Rattle.std.proofs.lemmas.Bool.{cases_lt}
use Rattle.hs_limits.specs.declared.address.Address.{Address}
use Rattle.hs_model.proofs.ReachLemmas.Reached.{start, onward}
use Rattle.hs_deletion.specs.Reached.{Member}
use Rattle.hs_deletion.specs.Records.{BlockRecord, RootRecord}
use Rattle.hs_deletion.specs.Machine.{Layout, Machine}
use Rattle.hs_deletion.specs.Clocks.{label_of}
use Rattle.hs_deletion.specs.Anchors.{IsThere, PointsTo, NotBefore, IsReachedIn}
use Rattle.hs_deletion.specs.Counts.{IsCount, AreCountsRight}
use Rattle.hs_deletion.specs.Promises.{HasNoWrongZero, HasEachZero}
use Rattle.hs_deletion.specs.Invariants.{IsBlockRight, IsRootRight, AreRaisedReached, IsNear, HasSupport, AreReachedSupported, AreReachedPresent, IsFounded, HasNoMissedZero, IsRight}
use Rattle.hs_deletion.proofs.ClockLemmas.{near, level, epoch_of_sent, raised_was_sent}
use Rattle.hs_deletion.proofs.FoundedLemmas.{founded_fewer, founded_more}
use Rattle.hs_deletion.proofs.ReachLemmas.{reached_earlier}
use Rattle.hs_deletion.proofs.CountLemmas.{there_or_not}
use Rattle.hs_deletion.proofs.ClientLemmas.{IsKeptBlock, IsKeptRoot, kept_root_counts, kept_root_counted, IsGiven, IsStored, IsPut, IsClients, reached_later, IsFresh, reached_or_fresh, arrow_before, there_later}

module _ (layout : Layout) (m : Machine) (right : IsRight layout m) (g : ℕ) (a : Address) (bs : List BlockRecord) (rs : List RootRecord) (step : IsClients layout m g a (record m { blocks = bs; roots = rs })) where
  abbrev now : ℕ
  now = (m.states g).epoch

  abbrev n : Machine
  n = record m { blocks = bs; roots = rs }

  lg : g < layout.shards
  lg = step.within

  later : (run : ℕ) → run ≤ now + 1 → (x : Address) → IsReachedIn m run x → IsReachedIn n run x
  later = reached_later layout m g a n step

  before : (run : ℕ) → run ≤ now → (x : Address) → IsReachedIn n run x → IsReachedIn m run x ⊎ IsFresh layout m g a n step x
  before = reached_or_fresh layout m g a n step

  blocks : (c : BlockRecord) → Member c bs → IsBlockRight (m.states (layout.home c.address)) c
  blocks c k = elim (step.block_from c k) [
    | inr s ↦ rw (s.given.here) (new_one s)
    | inl o ↦ old_one o.0 o.2 (subst (λ (x : Address). IsBlockRight (m.states (layout.home x)) o.0) o.2.address (right.blocks o.0 o.1)) o.3
  ]
    where
      new_one : IsStored layout m g a c → IsBlockRight (m.states g) c
      new_one s = record {
        born = omega (arith, s.born, s.given.mark);
        mark = omega (arith, s.given.mark);
        uncounted = inr s.given.mark;
        counted = λ e. (let f = s.counted in cc);
        running = λ run l. absurd (omega (arith, s.born, l));
        is_zero = λ e. (let f = s.nonzero in cc);
      }

      old_one : (b : BlockRecord) → IsKeptBlock b c → IsBlockRight (m.states (layout.home c.address)) b → (b.mark ≡ c.mark) ⊎ IsGiven layout m g c → IsBlockRight (m.states (layout.home c.address)) c
      old_one b s r t = record {
        born = omega (arith, s.born, s.mark, r.born);
        mark = high;
        uncounted = elim r.uncounted [ inl e ↦ inl (sym s.counted ∙ e) | inr e ↦ inr (omega (arith, e, s.mark, high)) ];
        counted = λ e. omega (arith, r.counted (s.counted ∙ e), s.born);
        running = λ run l. sym s.counted ∙ r.running run (omega (arith, s.born, l));
        is_zero = λ e. (let z = r.is_zero (s.is_zero ∙ e) in record {
          counted = sym s.counted ∙ z.counted;
          none = sym s.count ∙ z.none;
          running = z.running;
          late = z.late;
          mark = elim t [
            | inl same ↦ elim z.mark [ inl l ↦ inl (omega (arith, same, l)) | inr l ↦ inr (omega (arith, same, l)) ]
            | inr u ↦ inr (u.mark ∙ ap (λ (h : ℕ). (m.states h).epoch) (sym u.here))
          ];
        });
      }
        where
          high : c.mark ≤ (m.states (layout.home c.address)).epoch
          high = elim t [ inl same ↦ omega (arith, same, r.mark) | inr u ↦ omega (arith, u.mark, ap (λ (h : ℕ). (m.states h).epoch) u.here) ]

  homes : (r : RootRecord) → Member r rs → r.home < layout.shards
  homes r k = elim (step.root_from r k) [ inr p ↦ rw (p.here) lg | inl o ↦ (let h = right.homes o.0 o.1 in omega (arith, h, o.2.home)) ]

  roots : (r : RootRecord) → Member r rs → IsRootRight (m.states r.home) r
  roots r k = elim (step.root_from r k) [
    | inr p ↦ subst (λ (h : ℕ). IsRootRight (m.states h) r) (sym p.here) (new_one p)
    | inl o ↦ old_one o.0 o.2 (subst (λ (h : ℕ). IsRootRight (m.states h) o.0) o.2.home (right.roots o.0 o.1))
  ]
    where
      new_one : IsPut layout m g r → IsRootRight (m.states g) r
      new_one p = record {
        created = omega (arith, p.created);
        dropped = rw (p.dropped) tt;
        uncounted = inr p.created;
        counted = λ e. (let f = p.counted in cc);
        running = λ run l. absurd (omega (arith, p.created, l));
        released = λ run l e. (let f = p.counted in cc);
      }

      old_one : (q : RootRecord) → IsKeptRoot g now q r → IsRootRight (m.states r.home) q → IsRootRight (m.states r.home) r
      old_one q s t = record {
        created = omega (arith, s.created, t.created);
        dropped = drop r.created (rw (s.created) at t.dropped) (omega (arith, s.created, t.created));
        uncounted = elim t.uncounted [ inl e ↦ inl (sym s.counted ∙ e) | inr e ↦ inr (sym s.created ∙ e) ];
        counted = λ e. omega (arith, t.counted (s.counted ∙ e), s.created);
        running = λ run l. sym s.counted ∙ t.running run (omega (arith, s.created, l));
        released = λ run l e. drop ((m.states r.home).epoch - 1) (t.released run l (s.counted ∙ e)) (omega arith);
      }
        where
          drop : (k : ℕ) → NotBefore k q.dropped → k ≤ (m.states r.home).epoch → NotBefore k r.dropped
          drop k d le = elim s.dropped [
            | inl e ↦ rw e at d
            | inr e ↦ (let h : g ≡ r.home = sym e.0 ∙ s.home in rw (e.2) (omega (arith, le, ap (λ (h : ℕ). (m.states h).epoch) h)))
          ]

  count_same : (x : Address) (c : ℕ) → IsCount layout m x c → IsCount layout n x c
  count_same x c h = omega (arith, h, step.same_indegree x)

  counts : AreCountsRight layout n
  counts = record {
    present = λ c k. elim (step.block_from c k) [
      | inr s ↦ rw (s.none) (count_same c.address 0 (right.counts.absent c.address (rw (s.address) s.absent)))
      | inl o ↦ (let h : IsCount layout m o.0.address o.0.count = right.counts.present o.0 o.1 in count_same c.address c.count (rw (o.2.address, o.2.count) at h))
    ];
    absent = λ x none. count_same x 0 (right.counts.absent x (λ p. none (there_later layout m g a n step x p)));
  }

  -- a zero block's shard is in no later epoch than any other
  zero_level : (c : BlockRecord) → Member c bs → c.zero ≡ true → (h : ℕ) → h < layout.shards → (m.states (layout.home c.address)).epoch ≤ (m.states h).epoch
  zero_level c k z h lh = let q = (blocks c k).is_zero z in level layout m.states right.clocks (layout.home c.address) h (layout.within c.address) lh q.running q.late

  no_wrong_zero : HasNoWrongZero layout n
  no_wrong_zero c k z r =
      let le : (m.states (layout.home c.address)).epoch ≤ now = zero_level c k z g lg in
      let high = (blocks c k).mark in
      elim (before (m.states (layout.home c.address)).epoch le c.address r) [
        | inr f ↦ (let is : f.block ≡ c = step.distinct f.block c f.stands k f.here in let mark : f.block.mark ≡ c.mark = ap (λ (x : BlockRecord). x.mark) is in omega (arith, f.mark, mark, high, le))
        | inl old ↦ elim (step.block_from c k) [
          | inr s ↦ (let e = s.nonzero in cc)
          | inl o ↦ (
              let was : o.0.mark ≡ (m.states (layout.home c.address)).epoch = rw (o.2.address) at (right.no_wrong_zero o.0 o.1 (o.2.is_zero ∙ z) (rw (o.2.address) old)) in
              omega (arith, was, o.2.mark, high)
              )
        ]
      ]

  anchored : AreReachedPresent layout n
  anchored h x lh r = elim (cases_lt now (m.states h).epoch) [
    | inr le ↦ found h lh le r
    | inl l ↦ found g lg (omega arith) (reached_earlier n now (m.states h).epoch (omega (arith, l)) x r)
  ]
    where
      found : (h : ℕ) → h < layout.shards → (m.states h).epoch ≤ now → IsReachedIn n (m.states h).epoch x → IsThere bs x
      found h lh le r = elim (before (m.states h).epoch le x r) [
        | inr f ↦ record { block = f.block; stands = f.stands; here = f.here }
        | inl old ↦ there_later layout m g a n step x (right.anchored h x lh old)
      ]

  founded : (x : Address) → IsFounded (PointsTo bs) x
  founded x = elim (there_or_not m.blocks a) [
    | inl p ↦ founded_fewer (λ x y q. elim (arrow_before layout m g a n step x y q) [ inl o ↦ o | inr s ↦ absurd (s.2 p) ]) x (right.founded x)
    | inr gone ↦ founded_more (IsReachedIn m now) a (λ x y q. elim (arrow_before layout m g a n step x y q) [ inl o ↦ inl o | inr s ↦ inr (s.0, s.1) ]) (λ x y r p. onward r p) (λ r. gone (right.anchored g a lg r)) x (right.founded a) (right.founded x)
  ]

  searched : HasNoMissedZero layout n
  searched c k run l e z old = elim (step.block_from c k) [
    | inr s ↦ (let f = s.counted in cc)
    | inl o ↦ (
        let q = rw (o.2.address) at (right.searched o.0 o.1) in
        let r : 1 ≤ o.0.count = q run l (o.2.counted ∙ e) (o.2.is_zero ∙ z) (omega (arith, old, o.2.mark)) in
        omega (arith, r, o.2.count)
        )
  ]

  exact_zero : HasEachZero layout n
  exact_zero k last c stands away = elim (step.block_from c stands) [
    | inr s ↦ absurd (new_one s)
    | inl o ↦ (
        let q = o.2 in
        let z = right.exact_zero k (record { within = last.within; late = last.late; sent = last.sent; none = last.none }) o.0 o.1 (record {
          of_shard = ap layout.home q.address ∙ away.of_shard;
          older = omega (arith, away.older, q.born);
          unreached = λ r. away.unreached (rw (q.address) at (later (m.states k).epoch (near layout m.states right.clocks k g last.within lg) o.0.address r));
        }) in
        (sym q.is_zero ∙ z.0, old_mark)
        )
  ]
    where
      new_one : ¬ IsStored layout m g a c
      new_one s = let h : k ≡ g = sym away.of_shard ∙ s.given.here in omega (arith, away.older, s.born, ap (λ (h : ℕ). (m.states h).epoch) h)

      old_mark : c.mark < (m.states k).epoch
      old_mark = elim (cases_lt c.mark (m.states k).epoch) [
        | inl l ↦ l
        | inr le ↦ absurd (away.unreached (start (inl (record { block = c; stands = stands; here = refl; since = omega (arith, le) }))))
      ]

  -- what supported an address supports it
  support_kept : (run : ℕ) → run ≤ now + 1 → (x : Address) → HasSupport layout m run x → HasSupport layout n run x
  support_kept run le x (inl given) = let c = step.block_to given.block given.stands in inl (record { block = c.0; stands = c.1; here = sym c.2.address ∙ given.here; since = omega (arith, given.since, c.2.mark) })
  support_kept run le x (inr (inl o)) = let r = step.root_to o.root o.kept in inr (inl (record { root = r.0; kept = r.1; to = rw (r.2.addresses) at o.to; counts = kept_root_counts g now (run - 1) o.root r.0 r.2 (omega (arith, le)) o.counts; old = omega (arith, o.old, r.2.created) }))
  support_kept run le x (inr (inr p)) = let c = step.block_to p.block p.stands in let s = c.2 in inr (inr (record {
    block = c.0;
    stands = c.1;
    pointer = rw (s.pointers) at p.pointer;
    is_reached = rw (s.address) at (later run le p.block.address p.is_reached);
    born = omega (arith, p.born, s.born);
    solid = λ z. rw (s.address) at (p.solid (s.is_zero ∙ z));
  }))

  supported : AreReachedSupported layout n
  supported run range x r = elim (cases_lt now run) [
    | inr le ↦ elim (before run le x r) [
      | inr f ↦ inl (record { block = f.block; stands = f.stands; here = f.here; since = omega (arith, f.mark, le) })
      | inl old ↦ support_kept run (omega (arith, le)) x (right.supported run was_near x old)
    ]
    | inl l ↦ early l x r
  ]
    where
      was_near : IsNear layout m run
      was_near = record { near = range.near; some = range.some; within = range.within; low = range.low }

      early : now < run → (x : Address) → IsReachedIn n run x → HasSupport layout n run x
      early l x (start (inl given)) = inl given
      early l x (start (inr r)) = elim (step.root_from r.root r.kept) [
        | inr p ↦ inr (inl (record { root = r.root; kept = r.kept; to = r.to; counts = r.counts; old = omega (arith, p.created, l) }))
        | inl o ↦ support_kept run (range.near g lg) x (right.supported run was_near x (start (inr (record { root = o.0; kept = o.1; to = rw (o.2.addresses) r.to; counts = kept_root_counted g now (run - 1) o.0 r.root o.2 r.counts }))))
      ]
      early l x (onward {a = y} r p) = elim (cases_lt p.block.born run) [
        | inl young ↦ inr (inr (record { block = p.block; stands = p.stands; pointer = p.pointer; is_reached = rw (p.here) r; born = young; solid = λ z e. omega (arith, e, l, zero_level p.block p.stands z g lg) }))
        | inr late ↦ elim (step.block_from p.block p.stands) [
          | inr s ↦ absurd (omega (arith, s.born, l, late))
          | inl o ↦ (
              let s = o.2 in
              let old : IsReachedIn m run o.0.address = start (inl (record { block = o.0; stands = o.1; here = refl; since = omega (arith, (right.blocks o.0 o.1).born, s.born, late) })) in
              support_kept run (range.near g lg) x (right.supported run was_near x (onward old (record { block = o.0; stands = o.1; here = refl; pointer = rw (s.pointers) p.pointer })))
              )
        ]
      ]

  raised : AreRaisedReached layout n
  raised h k x lh up le = later (label_of layout m.states k).epoch (omega (arith, epoch_of_sent layout m.states right.clocks h k lh (raised_was_sent layout m.states right.clocks h k x lh up), near layout m.states right.clocks h g lh lg)) x (right.raised h k x lh up le)

  pub right_clients : IsRight layout n
  right_clients = record {
    clocks = right.clocks;
    distinct = step.distinct;
    blocks = blocks;
    homes = homes;
    roots = roots;
    counts = counts;
    raised = raised;
    supported = supported;
    no_wrong_zero = no_wrong_zero;
    anchored = anchored;
    founded = founded;
    searched = searched;
    exact_zero = exact_zero;
  }
