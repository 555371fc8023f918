-- A search keeps the counts.
use Rattle.std.proofs.Common.{◌≡◌, ◌≢◌, ℕ, ◌+◌, ◌≤◌, ◌<◌, Bool, true, ◌⊎◌, inl, inr, refl, sym, arith, map}
use Rattle.std.proofs.lemmas.Bool.{cases_eq}
use Rattle.hs_limits.specs.declared.address.Address.{Address}
use Rattle.hs_deletion.specs.Reached.{Member}
use Rattle.hs_deletion.specs.Records.{BlockRecord, RootRecord, is_found, is_released}
use Rattle.hs_deletion.specs.Machine.{Layout, Machine}
use Rattle.hs_deletion.specs.Rounds.{times, pointers_where, addresses_where, raised_in, lowered_in, total_in}
use Rattle.hs_deletion.specs.Steps.{blocks_at, roots_at, recounted_at}
use Rattle.hs_deletion.specs.Anchors.{IsThere}
use Rattle.hs_deletion.specs.Counts.{block_weight, root_weight, indegree, IsCount, AreCountsRight}
use Rattle.hs_deletion.specs.History.{MayComplete}
use Rattle.hs_deletion.specs.Invariants.{IsRight}
use Rattle.hs_deletion.proofs.SumLemmas.{set_at_self, set_at_other}
use Rattle.hs_deletion.proofs.RoundLemmas.{times_none, times_append, times_pointers_where, times_addresses_where}
use Rattle.hs_deletion.proofs.WayLemmas.{raised_late, raised_unsent, lowered_unsent, raised_sent, lowered_sent}
use Rattle.hs_deletion.proofs.ClockLemmas.{sent_near}
use Rattle.hs_deletion.proofs.CountLemmas.{weight_counted, weight_zero, root_weight_counted, counts_changed, absent_before}
use Rattle.hs_deletion.proofs.PromiseLemmas.{unraised}
use Rattle.hs_deletion.proofs.TestLemmas.{IsFoundSo, found_tells, released_tells}
use Rattle.hs_deletion.proofs.SearchSums.{blocks_lowered, roots_lowered}
use Rattle.hs_deletion.proofs.SearchLemmas.{stepped, new, round_of, change_of, goes, count, run, next_row, changed, block_stays, found}

module _ (layout : Layout) (m : Machine) (right : IsRight layout m) (g : ℕ) (may : MayComplete layout m g) (more : ((m.states g).round ≡ 0) ⊎ (1 ≤ total_in layout m.states (m.states g).completed)) where
  abbrev n : Machine
  n = stepped layout m right g may more

  abbrev change : BlockRecord → BlockRecord
  change = change_of layout m right g may more

  abbrev fresh : BlockRecord → ℕ
  fresh = count layout m right g may more

  abbrev released : RootRecord → Bool
  released = goes layout m right g may more

  abbrev lowered_by : Address → ℕ
  lowered_by a = times a (round_of layout m right g may more).lowers

  -- ---- what names an address

  indegree_less : (a : Address) → indegree n a + lowered_by a ≡ indegree m a
  unfolding indegree block_weight
  indegree_less a = omega (
    arith,
    blocks_lowered layout m g (block_weight a) (λ b. times a b.pointers) (λ b. refl) (λ b e. found_less b (found_tells (m.states g).epoch b e)),
    roots_lowered layout m g (root_weight a) (λ r. times a r.addresses) (λ r e. sym (root_weight_counted a r (released_tells (m.states g).round (m.states g).epoch r e))),
    times_append a (pointers_where (is_found (m.states g).epoch) (map (recounted_at layout g m) (blocks_at layout g m.blocks))) (addresses_where (is_released (m.states g).round (m.states g).epoch) (roots_at g m.roots)),
    times_pointers_where a (is_found (m.states g).epoch) (map (recounted_at layout g m) (blocks_at layout g m.blocks)),
    times_addresses_where a (is_released (m.states g).round (m.states g).epoch) (roots_at g m.roots),
  )
    where
      found_less : (b : BlockRecord) → IsFoundSo (m.states g).epoch b → block_weight a (record b { zero = true }) + times a b.pointers ≡ block_weight a b
      found_less b f = omega (arith, weight_zero a (record b { zero = true }) refl, weight_counted a b f.counted f.nonzero)

  -- ---- the counts

  here_completed : (k : ℕ) → k ≡ g → (n.states k).completed ≡ (m.states g).completed + 1
  here_completed k e = rw (e, set_at_self g (new layout m right g may more) m.states) refl

  there_completed : (k : ℕ) → k ≢ g → (n.states k).completed ≡ (m.states k).completed
  there_completed k o = rw (set_at_other g (new layout m right g may more) m.states k o) refl

  ahead : (m.states g).sent ≡ (m.states g).completed + 1
  ahead = (run layout m right g may more).ahead

  -- nothing is sent after the next row
  beyond : (k : ℕ) → k < layout.shards → (m.states k).sent ≤ (m.states g).completed + 1 + 1
  beyond k lk = omega (arith, sent_near layout m.states right.clocks g k may.within lk)

  -- an address of another shard
  count_there : (a : Address) (c : ℕ) → layout.home a ≢ g → IsCount layout m a c → IsCount layout n a c
  count_there a c o h =
      let k : ℕ = (m.states (layout.home a)).completed in
      let low : k ≤ (m.states g).sent = (right.clocks (layout.home a) (layout.within a)).come g may.within in
      let sent = may.sent (layout.home a) (layout.within a) in
      let high : (m.states g).sent ≤ k + 1 = elim (right.clocks (layout.home a) (layout.within a)).phase [ inl p ↦ omega (arith, ahead, p.ahead, sent) | inr p ↦ omega (arith, ahead, p.level, sent) ] in
      rw (there_completed (layout.home a) o) (omega (arith, h, indegree_less a, raised_sent layout m.states right.clocks g may.within (round_of layout m right g may more) (new layout m right g may more) refl refl k a low high, lowered_sent layout m.states right.clocks g may.within (round_of layout m right g may more) (new layout m right g may more) refl refl k a low high, times_none a))

  -- an address of this shard, with what the row says
  count_here : (a : Address) (c d : ℕ) → layout.home a ≡ g → d + lowered_in layout m.states (m.states g).completed a ≡ c + raised_in layout m.states (m.states g).completed a → IsCount layout m a c → IsCount layout n a d
  count_here a c d e move h =
      let h' : c + (raised_in layout m.states (m.states g).completed a + raised_in layout m.states ((m.states g).completed + 1) a) ≡ indegree m a + (lowered_in layout m.states (m.states g).completed a + lowered_in layout m.states ((m.states g).completed + 1) a) = rw e at h in
      let up = raised_sent layout m.states right.clocks g may.within (round_of layout m right g may more) (new layout m right g may more) refl refl ((m.states g).completed + 1) a (omega (arith, ahead)) (omega (arith, ahead)) in
      let down = lowered_sent layout m.states right.clocks g may.within (round_of layout m right g may more) (new layout m right g may more) refl refl ((m.states g).completed + 1) a (omega (arith, ahead)) (omega (arith, ahead)) in
      rw (here_completed (layout.home a) e) (omega (arith, h', move, up, down, indegree_less a, times_none a, raised_unsent layout m.states right.clocks ((m.states g).completed + 1 + 1) a beyond, lowered_unsent layout m.states right.clocks ((m.states g).completed + 1 + 1) a beyond))

  -- no count falls below 0
  pub fits : (a : Address) (c : ℕ) → layout.home a ≡ g → IsCount layout m a c → lowered_in layout m.states (m.states g).completed a ≤ c + raised_in layout m.states (m.states g).completed a
  fits a c e h =
      let h' : c + (raised_in layout m.states (m.states g).completed a + raised_in layout m.states ((m.states g).completed + 1) a) ≡ indegree m a + (lowered_in layout m.states (m.states g).completed a + lowered_in layout m.states ((m.states g).completed + 1) a) = rw e at h in
      omega (arith, h', raised_late layout m.states right.clocks ((m.states g).completed + 1) a (next_row layout m right g may more).0)

  pub counts_searched : AreCountsRight layout n
  counts_searched = counts_changed layout m n change (λ r. r) (changed layout m right g may more) right.counts block gone
    where
      block : (b : BlockRecord) → Member b m.blocks → IsCount layout m b.address b.count → IsCount layout n b.address (change b).count
      block b k h = elim (found layout m right g may more b) [
        | inl o ↦ rw (o.1) (count_there b.address b.count o.0 h)
        | inr (inl z) ↦ rw (z.1) (moved z.0.here)
        | inr (inr o) ↦ rw (o.2) (moved o.0)
      ]
        where
          moved : layout.home b.address ≡ g → IsCount layout n b.address (fresh b)
          moved e = count_here b.address b.count (fresh b) e (omega (arith, fits b.address b.count e h)) h

      gone : (a : Address) → ¬ IsThere n.blocks a → IsCount layout n a 0
      gone a none =
          let was = absent_before m n change (λ r. r) (changed layout m right g may more) (block_stays layout m right g may more) a none in
          let h = right.counts.absent a was in
          elim (cases_eq (layout.home a) g) [
            | inl e ↦ count_here a 0 0 e (omega (arith, fits a 0 e h, unraised layout m right a was (m.states g).completed (rw e (omega arith)))) h
            | inr o ↦ count_there a 0 o h
          ]
