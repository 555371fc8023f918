-- What a search changes, and which blocks it makes zero blocks: none that the run reaches.
use Rattle.std.proofs.Common.{◌≡◌, ◌≢◌, ℕ, ◌+◌, ◌≤◌, ◌<◌, Bool, true, false, not, ◌&&◌, ◌⊎◌, inl, inr, refl, sym, ◌∙◌, ap, arith, map}
use Rattle.std.proofs.lemmas.Bool.{cases_Bool}
use Rattle.hs_model.proofs.Members.{member-map, member_of_map, member-filter, member_of_filter}
use Rattle.hs_deletion.specs.Reached.{Member}
use Rattle.hs_deletion.specs.Records.{BlockRecord, RootRecord, change_if, is_found, searched, is_released}
use Rattle.hs_deletion.specs.Machine.{Layout, Round, ShardState, Machine, is_at, is_root_at}
use Rattle.hs_deletion.specs.Rounds.{raised_in, lowered_in, total_in, next_round}
use Rattle.hs_deletion.specs.Steps.{blocks_at, roots_at, recounted_at, state_searched, after_search}
use Rattle.hs_deletion.specs.Anchors.{IsReachedIn}
use Rattle.hs_deletion.specs.Counts.{indegree}
use Rattle.hs_deletion.specs.History.{MayComplete}
use Rattle.hs_deletion.specs.Clocks.{label_of, IsRunning}
use Rattle.hs_deletion.specs.Invariants.{IsNear, IsRight}
use Rattle.hs_deletion.proofs.TestLemmas.{found_tells, not_found_tells, counts_unreleased}
use Rattle.hs_deletion.proofs.LabelLemmas.{label_next}
use Rattle.hs_deletion.proofs.ClockLemmas.{running_of, together}
use Rattle.hs_deletion.proofs.WayLemmas.{raised_late}
use Rattle.hs_deletion.proofs.StepLemmas.{change_if_cases, changed_at, same_block_on, same_changed, same_root, IsChanged, KeepsReached}
use Rattle.hs_deletion.proofs.CountLemmas.{named_by_block, named_by_root}

module _ (layout : Layout) (m : Machine) (right : IsRight layout m) (g : ℕ) (may : MayComplete layout m g) (more : ((m.states g).round ≡ 0) ⊎ (1 ≤ total_in layout m.states (m.states g).completed)) where
  abbrev pub epoch_of : ℕ
  epoch_of = (m.states g).epoch

  -- the row that is completed
  abbrev pub row : ℕ
  row = (m.states g).completed

  abbrev pub stepped : Machine
  stepped = after_search layout g m

  abbrev pub new : ShardState
  new = state_searched layout g m

  abbrev pub round_of : Round
  round_of = next_round (m.states g).round epoch_of (map (recounted_at layout g m) (blocks_at layout g m.blocks)) (roots_at g m.roots)

  abbrev pub change_of : BlockRecord → BlockRecord
  change_of = change_if (is_at layout g) (λ b. searched epoch_of (recounted_at layout g m b))

  abbrev pub goes : RootRecord → Bool
  goes r = is_root_at g r && is_released (m.states g).round epoch_of r

  -- the count after the row
  abbrev pub count : BlockRecord → ℕ
  count b = (recounted_at layout g m b).count

  -- all shards run in this epoch
  pub level_all : (h : ℕ) → h < layout.shards → ((m.states h).epoch ≡ epoch_of) × ((m.states h).swept < (m.states h).epoch)
  level_all h lh = together layout m.states right.clocks g h may.within lh may.sent more

  pub run : IsRunning layout m.states (m.states g)
  run = running_of layout m.states right.clocks g may.within (may.sent g may.within)

  pub is_near : IsNear layout m epoch_of
  is_near = record { near = λ h lh. omega (arith, (level_all h lh).0); some = g; within = may.within; low = omega arith }

  -- the next row is of the same run
  pub next_row : (1 ≤ (label_of layout m.states (row + 1)).round) × ((label_of layout m.states (row + 1)).epoch ≡ epoch_of) × ((label_of layout m.states (row + 1)).round ≡ (m.states g).round + 1)
  next_row = elim (label_next layout m.states row (row + 1) (omega arith)) [
    | inl q ↦ elim more [ inl z ↦ absurd (omega (arith, q.0, run.of_round, z)) | inr z ↦ absurd (omega (arith, q.1, z)) ]
    | inr q ↦ (omega (arith, q.2), omega (arith, q.1, run.of_epoch), omega (arith, q.2, run.of_round))
  ]

  -- ---- the step

  pub changed : IsChanged m stepped change_of (λ r. r)
  changed = record {
    block_same = same_changed (is_at layout g) (λ b. searched epoch_of (recounted_at layout g m b)) (λ b. same_block_on b (recounted_at layout g m b) _ (record { address = refl; pointers = refl; born = refl; mark = refl }) (same_changed (is_found epoch_of) (λ b. record b { zero = true }) (λ b. record { address = refl; pointers = refl; born = refl; mark = refl }) (recounted_at layout g m b)));
    block_from = λ c k. (let p = member_of_map change_of c m.blocks k in (p.0, p.1, sym p.2));
    root_same = same_root;
    root_from = λ q k. (q, (member_of_filter (λ r. not (goes r)) q m.roots k).0, refl);
  }

  pub block_stays : (b : BlockRecord) → Member b m.blocks → Member (change_of b) stepped.blocks
  block_stays b k = member-map change_of b m.blocks k

  pub keeps : (run : ℕ) → epoch_of ≤ run → KeepsReached run m stepped change_of (λ r. r)
  keeps run le = record {
    block_to = λ b k r. block_stays b k;
    root_to = λ r k d. member-filter (λ r. not (goes r)) r m.roots k (rw (counts_unreleased (m.states g).round epoch_of run r le d) (none (is_root_at g r)));
  }
    where
      none : (t : Bool) → not (t && false) ≡ true
      none false = refl
      none true = refl

  -- what the tests of a new zero block tell
  pub record IsNewZero (b : BlockRecord) : Type 0 where
    pub here : layout.home b.address ≡ g
    pub counted : b.counted ≡ true
    pub nonzero : b.zero ≡ false
    pub none : count b ≡ 0
    pub old : b.mark + 2 ≤ epoch_of

  -- a block after the search: of another shard, a new zero block, or one with its new count, which is not 0 where it is old
  pub found : (b : BlockRecord) → ((layout.home b.address ≢ g) × (change_of b ≡ b))
      ⊎ IsNewZero b × (change_of b ≡ record b { count = count b; zero = true })
      ⊎ (layout.home b.address ≡ g) × (b.counted ≡ true → b.zero ≡ false → b.mark + 2 ≤ epoch_of → 1 ≤ count b) × (change_of b ≡ record b { count = count b })
  found b = elim (changed_at layout g (λ b. searched epoch_of (recounted_at layout g m b)) b) [
    | inr o ↦ inl o
    | inl h ↦ elim (change_if_cases (is_found epoch_of) (λ b. record b { zero = true }) (recounted_at layout g m b)) [
      | inl t ↦ (
          let f = found_tells epoch_of (recounted_at layout g m b) t.0 in
          inr (inl (record { here = h.0; counted = f.counted; nonzero = f.nonzero; none = f.none; old = f.old }, h.1 ∙ t.1))
          )
      | inr t ↦ inr (inr (h.0, (λ c z k. not_found_tells epoch_of (recounted_at layout g m b) c z k t.0), h.1 ∙ t.1))
    ]
  ]

  -- the new count is what names the address, and what is still to be lowered
  pub count_is : (b : BlockRecord) → Member b m.blocks → layout.home b.address ≡ g → count b ≡ indegree m b.address + lowered_in layout m.states (row + 1) b.address
  count_is b k e =
      let h : b.count + (raised_in layout m.states row b.address + raised_in layout m.states (row + 1) b.address) ≡ indegree m b.address + (lowered_in layout m.states row b.address + lowered_in layout m.states (row + 1) b.address) = rw e at (right.counts.present b k) in
      omega (arith, h, raised_late layout m.states right.clocks (row + 1) b.address next_row.0)

  -- no new zero block is reached: what supports it in this run would name it
  pub new_zero_unreached : (b : BlockRecord) → Member b m.blocks → IsNewZero b → ¬ IsReachedIn m epoch_of b.address
  new_zero_unreached b k z r = elim (right.supported epoch_of is_near b.address r) [
    | inl given ↦ (let is : given.block ≡ b = right.distinct given.block b given.stands k given.here in let mark : given.block.mark ≡ b.mark = ap (λ (x : BlockRecord). x.mark) is in absurd (omega (arith, z.old, given.since, mark)))
    | inr (inl o) ↦ (
        let l = level_all o.root.home (right.homes o.root o.kept) in
        let c : o.root.counted ≡ true = (right.roots o.root o.kept).running l.1 (omega (arith, l.0, o.old)) in
        omega (arith, count_is b k z.here, z.none, named_by_root m b.address o.root o.kept c o.to)
        )
    | inr (inr p) ↦ (
        let l = level_all (layout.home p.block.address) (layout.within p.block.address) in
        let c : p.block.counted ≡ true = (right.blocks p.block p.stands).running l.1 (omega (arith, l.0, p.born)) in
        let n : p.block.zero ≡ false = elim (cases_Bool p.block.zero) [ inl e ↦ absurd (p.solid e l.0) | inr f ↦ f ] in
        omega (arith, count_is b k z.here, z.none, named_by_block m b.address p.block p.stands c n p.pointer)
        )
  ]
