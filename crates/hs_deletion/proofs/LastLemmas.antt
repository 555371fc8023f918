-- When all shards have sent the last row of a run, what is old and not reached is a zero block.
use Rattle.std.proofs.Common.{◌≡◌, ℕ, ◌+◌, ◌-◌, ◌≤◌, ◌<◌, Bool, true, false, inl, inr, refl, ap, subst, arith}
use Rattle.std.proofs.lemmas.Bool.{cases_lt}
use Rattle.hs_limits.specs.declared.address.Address.{Address}
use Rattle.hs_model.proofs.ReachLemmas.Reached.{start, onward}
use Rattle.hs_deletion.specs.Reached.{Member}
use Rattle.hs_deletion.specs.Records.{BlockRecord, RootRecord}
use Rattle.hs_deletion.specs.Machine.{Layout, Machine}
use Rattle.hs_deletion.specs.Rounds.{raised_in, lowered_in, total_in}
use Rattle.hs_deletion.specs.Anchors.{PointsTo, NotBefore, IsReachedIn}
use Rattle.hs_deletion.specs.Counts.{indegree, AreCountsRight}
use Rattle.hs_deletion.specs.Clocks.{label_of, AreClocksRight}
use Rattle.hs_deletion.specs.Invariants.{IsBlockRight, IsRootRight, IsFounded, HasNoMissedZero}
use Rattle.hs_deletion.proofs.WayLemmas.{raised_late, lowered_last, raised_unsent, lowered_unsent}
use Rattle.hs_deletion.proofs.FoundedLemmas.{founded_none}
use Rattle.hs_deletion.proofs.ClockLemmas.{running_of}
use Rattle.hs_deletion.proofs.CountLemmas.{naming}

module _ (layout : Layout) (m : Machine) (clocks : AreClocksRight layout m.states)
    (blocks : (b : BlockRecord) → Member b m.blocks → IsBlockRight (m.states (layout.home b.address)) b)
    (homes : (r : RootRecord) → Member r m.roots → r.home < layout.shards)
    (roots : (r : RootRecord) → Member r m.roots → IsRootRight (m.states r.home) r)
    (counts : AreCountsRight layout m) (founded : (a : Address) → IsFounded (PointsTo m.blocks) a) (searched : HasNoMissedZero layout m)
    (row : ℕ) (level : (h : ℕ) → h < layout.shards → ((m.states h).completed ≡ row) × ((m.states h).sent ≡ row + 1)) (late : 1 ≤ (label_of layout m.states row).round) (none : total_in layout m.states row ≡ 0) where
  abbrev run : ℕ
  run = (label_of layout m.states row).epoch

  -- all are in the row's run, after its round 0
  pub all_running : (h : ℕ) → h < layout.shards → ((m.states h).epoch ≡ run) × ((m.states h).swept < (m.states h).epoch) × (1 ≤ (m.states h).round)
  all_running h lh =
      let l = level h lh in
      let p = running_of layout m.states clocks h lh (omega (arith, l.0, l.1)) in
      (omega (arith, p.of_epoch, ap (λ n. (label_of layout m.states n).epoch) l.0), omega (arith, p.unswept), omega (arith, p.of_round, ap (λ n. (label_of layout m.states n).round) l.0, late))

  -- nothing is on its way
  count_is : (b : BlockRecord) → Member b m.blocks → b.count ≡ indegree m b.address
  count_is b k =
      let h : b.count + (raised_in layout m.states row b.address + raised_in layout m.states (row + 1) b.address) ≡ indegree m b.address + (lowered_in layout m.states row b.address + lowered_in layout m.states (row + 1) b.address) = rw (level (layout.home b.address) (layout.within b.address)).0 at (counts.present b k) in
      omega (
        arith,
        h,
        raised_late layout m.states clocks row b.address late,
        lowered_last layout m.states clocks row b.address none,
        raised_unsent layout m.states clocks (row + 1) b.address (λ k lk. omega (arith, (level k lk).1)),
        lowered_unsent layout m.states clocks (row + 1) b.address (λ k lk. omega (arith, (level k lk).1)),
      )

  -- counted, no zero block and not reached
  record IsLeftOver (a : Address) : Type 0 where
    block : BlockRecord
    stands : Member block m.blocks
    here : block.address ≡ a
    counted : block.counted ≡ true
    nonzero : block.zero ≡ false
    away : ¬ IsReachedIn m run block.address

  old_mark : (b : BlockRecord) → Member b m.blocks → ¬ IsReachedIn m run b.address → b.mark + 2 ≤ run
  old_mark b k away = elim (cases_lt (b.mark + 1) run) [
    | inl l ↦ omega (arith, l)
    | inr l ↦ absurd (away (start (inl (record { block = b; stands = k; here = refl; since = omega (arith, l) }))))
  ]

  -- what is left over is named by what is left over
  back : (a : Address) → IsLeftOver a → (c : Address) × IsLeftOver c × PointsTo m.blocks c a
  back a u =
      let p = all_running (layout.home u.block.address) (layout.within u.block.address) in
      let some : 1 ≤ u.block.count = searched u.block u.stands p.1 p.2 u.counted u.nonzero (omega (arith, p.0, old_mark u.block u.stands u.away)) in
      elim (naming m u.block.address (omega (arith, some, count_is u.block u.stands))) [
        | inl r ↦ (
            let q = all_running r.root.home (homes r.root r.kept) in
            let n : NotBefore ((m.states r.root.home).epoch - 1) r.root.dropped = (roots r.root r.kept).released q.1 q.2 r.counted in
            absurd (u.away (start (inr (record { root = r.root; kept = r.kept; to = r.to; counts = rw q.0 at n }))))
            )
        | inr b ↦ (
            let arrow : PointsTo m.blocks b.block.address u.block.address = record { block = b.block; stands = b.stands; here = refl; pointer = b.pointer } in
            (b.block.address, record { block = b.block; stands = b.stands; here = refl; counted = b.counted; nonzero = b.nonzero; away = λ r. u.away (onward r arrow) }, subst (PointsTo m.blocks b.block.address) u.here arrow)
            )
      ]

  pub zero_at_the_last : (b : BlockRecord) → Member b m.blocks → b.born < run → ¬ IsReachedIn m run b.address → (b.zero ≡ true) × (b.mark < run)
  zero_at_the_last b k young away = (go b.zero refl, omega (arith, old_mark b k away))
    where
      counted : b.counted ≡ true
      counted = let p = all_running (layout.home b.address) (layout.within b.address) in (blocks b k).running p.1 (omega (arith, p.0, young))

      go : (z : Bool) → b.zero ≡ z → b.zero ≡ true
      go true e = e
      go false e = absurd (founded_none IsLeftOver back b.address (founded b.address) (record { block = b; stands = k; here = refl; counted = counted; nonzero = e; away = away }))
