-- What is promised follows from the invariants.
use Rattle.std.proofs.Common.{◌≡◌, ℕ, zero, suc, ◌+◌, ◌-◌, ◌≤◌, inl, inr, refl, arith, Option, Some, None, unwrap_or}
use Rattle.hs_limits.specs.declared.address.Address.{Address}
use Rattle.hs_deletion.specs.Reached.{Reached}
use Rattle.hs_deletion.specs.Machine.{Layout, Machine}
use Rattle.hs_deletion.specs.Rounds.{raised_in}
use Rattle.hs_deletion.specs.Clocks.{label_of}
use Rattle.hs_deletion.specs.Anchors.{IsThere, PointsTo, NotBefore, IsReachedIn, IsGround}
use Rattle.hs_deletion.specs.Promises.{IsUnnamed}
use Rattle.hs_deletion.specs.Invariants.{IsRight}
use Rattle.hs_deletion.proofs.ClockLemmas.{epoch_of_row}
use Rattle.hs_deletion.proofs.WayLemmas.{some_raised}
use Rattle.hs_deletion.proofs.ReachLemmas.{reached_earlier, reached_more}

-- what a client may still use is reached in the run of the shard's epoch
pub fresh_is_reached : (m : Machine) (g epoch : ℕ) (a : Address) → (m.states g).epoch ≤ epoch + 1 → Reached (IsGround m epoch) (PointsTo m.blocks) a → IsReachedIn m (m.states g).epoch a
fresh_is_reached m g epoch a le = reached_more
    (λ x h. elim h [
      | inl given ↦ inl (record { block = given.block; stands = given.stands; here = given.here; since = omega (arith, le, given.since) })
      | inr r ↦ inr (record { root = r.root; kept = r.kept; to = r.to; counts = counts (m.states r.root.home).epoch r.root.dropped r.stands })
    ])
    (λ x y p. p) a
  where
    counts : (now : ℕ) (d : Option ℕ) → epoch ≤ unwrap_or d now → NotBefore ((m.states g).epoch - 1) d
    counts now None s = tt
    counts now (Some d) s = omega (arith, le, s)

module _ (layout : Layout) (m : Machine) (right : IsRight layout m) (a : Address) (absent : ¬ IsThere m.blocks a) where
  -- a row that its shard has not completed does not raise it: what is raised is reached, and so present
  pub unraised : (n : ℕ) → (m.states (layout.home a)).completed ≤ n → raised_in layout m.states n a ≡ 0
  unraised n le = go (raised_in layout m.states n a) refl
    where
      go : (v : ℕ) → raised_in layout m.states n a ≡ v → raised_in layout m.states n a ≡ 0
      go zero q = q
      go (suc v) q =
          let some = some_raised layout m.states right.clocks n a (omega (arith, q)) in
          let r = right.raised some.0 n a some.1 some.2 le in
          absurd (absent (right.anchored (layout.home a) a (layout.within a) (reached_earlier m (m.states (layout.home a)).epoch (label_of layout m.states n).epoch (epoch_of_row layout m.states right.clocks (layout.home a) n (layout.within a) le) a r)))

  -- nothing names what is absent
  pub absent_is_unnamed : IsUnnamed layout m a
  absent_is_unnamed =
      let n : ℕ = (m.states (layout.home a)).completed in
      let h = right.counts.absent a absent in
      let u = unraised n (omega arith) in
      let v = unraised (n + 1) (omega arith) in
      record { indegree = omega (arith, h, u, v); raised = omega (arith, u, v); lowered = omega (arith, h, u, v) }
