-- A count and what is on its way to raise it stay within a bound, as long as no shard has more than it takes.
use Rattle.std.proofs.Common.{◌≡◌, ◌≢◌, ◌⊎◌, inl, inr, ℕ, zero, suc, ◌+◌, ◌-◌, ◌≤◌, ◌<◌, ◌*◌, List, [], ◌∷◌, length, map, filter, Bool, true, false, cond, ◌&&◌, not, refl, sym, ap, ◌∙◌, subst, arith}
use Rattle.std.proofs.lemmas.Bool.{cases_eq}
use Rattle.std.specs.Prelude.{sum_by, count_by}
use Rattle.std.proofs.lemmas.List.Sums.{sum_by-cons, count_by-le-length}
use Rattle.hs_limits.specs.declared.address.Address.{Address}
use Rattle.hs_model.specs.Reach.{is_same}
use Rattle.hs_model.proofs.Members.{Member, member_of_map, member_of_filter}
use Rattle.hs_deletion.specs.Records.{BlockRecord, change_if, given_in, spared, renewed, is_removed}
use Rattle.hs_deletion.specs.Machine.{Layout, ShardState, Machine, empty_machine, sum_below, is_at}
use Rattle.hs_deletion.specs.Rounds.{times, raised_in, lowered_in, total_in}
use Rattle.hs_deletion.specs.Clocks.{label_of, IsRunning}
use Rattle.hs_deletion.specs.Counts.{block_weight, root_weight, indegree, raised_on_way, lowered_on_way}
use Rattle.hs_deletion.specs.History.{MayStore, MayEnter, MayComplete}
use Rattle.hs_deletion.specs.Invariants.{IsRight}
use Rattle.hs_deletion.specs.Promises.{IsAtTheLast}
use Rattle.hs_deletion.specs.Steps.{after_store, after_mark, after_enter, after_search, after_sweep, state_entered, state_swept}
use Rattle.hs_deletion.proofs.SumLemmas.{set_at_self, set_at_other}
use Rattle.hs_deletion.proofs.RoundLemmas.{times_none}
use Rattle.hs_deletion.proofs.WayLemmas.{lowered_first, lowered_last, raised_unsent, lowered_unsent, raised_sent, raised_same}
use Rattle.hs_deletion.proofs.ClockLemmas.{beside, sent_near, unswept_of}
use Rattle.hs_deletion.proofs.StepLemmas.{change_if_cases}
use Rattle.hs_deletion.proofs.PromiseLemmas.{unraised}
use Rattle.hs_deletion.proofs.EnterKeeps.{right_entered}
use Rattle.hs_deletion.proofs.EnterLemmas.{idle, completed_same, counts_entered}
use Rattle.hs_deletion.proofs.SearchLemmas.{run, found, round_of, change_of, new}
use Rattle.hs_joint.specs.Seen.{seen_block, seen_root}
use Rattle.hs_fold.specs.Runs.Facts.{Facts, RootFacts}

-- eight shards, each with 16,384 blocks of 64 pointers and 16,777,216 roots
abbrev pub most : ℕ
most = 142606336

abbrev pub IsBounded : Layout → Machine → Type 0
IsBounded layout m = (b : BlockRecord) → Member b m.blocks → b.count + raised_on_way layout m b.address ≤ most

module _ (layout : Layout) (m : Machine) (right : IsRight layout m) (bounded : IsBounded layout m) where
  -- ---- clients

  pub bounded_stored : (a : Address) (pointers : List Address) → MayStore layout m a pointers → IsBounded layout (after_store layout a pointers m)
  bounded_stored a pointers may b (inl e) =
      let up = unraised layout m right a may.absent (m.states (layout.home a)).completed (omega arith) in
      let more = unraised layout m right a may.absent ((m.states (layout.home a)).completed + 1) (omega arith) in
      subst (λ (x : BlockRecord). x.count + raised_on_way layout m x.address ≤ most) (sym e) (omega (arith, up, more))
  bounded_stored a pointers may b (inr k) = bounded b k

  pub bounded_given : (a : Address) → IsBounded layout (after_mark layout a m)
  bounded_given a b k =
      let epoch : ℕ = (m.states (layout.home a)).epoch in
      let o = member_of_map (change_if (λ b. is_same b.address a) (given_in epoch)) b m.blocks k in
      let low = bounded o.0 o.1 in
      elim (change_if_cases (λ (b : BlockRecord). is_same b.address a) (given_in epoch) o.0) [
        | inl p ↦ subst (λ (x : BlockRecord). x.count + raised_on_way layout m x.address ≤ most) (sym (o.2 ∙ p.1)) low
        | inr p ↦ subst (λ (x : BlockRecord). x.count + raised_on_way layout m x.address ≤ most) (sym (o.2 ∙ p.1)) low
      ]

  -- ---- Enter

  module _ (g : ℕ) (may : MayEnter layout m g) where
    abbrev entered_m : Machine
    entered_m = after_enter layout g m

    state_is : entered_m.states g ≡ state_entered layout g m
    state_is = set_at_self g (state_entered layout g m) m.states

    other_is : (k : ℕ) → k ≢ g → entered_m.states k ≡ m.states k
    other_is k o = set_at_other g (state_entered layout g m) m.states k o

    level : (m.states g).sent ≡ (m.states g).completed
    level = (idle layout m right g may).level

    entered_right : IsRight layout entered_m
    entered_right = right_entered layout m right g may

    running : IsRunning layout entered_m.states (entered_m.states g)
    running = unswept_of layout entered_m.states entered_right.clocks g may.within (rw state_is (let e = may.is_swept in omega (arith, e)))

    same_completed : (k : ℕ) → (entered_m.states k).completed ≡ (m.states k).completed
    same_completed k = completed_same layout m right g may k

    first : (label_of layout entered_m.states (entered_m.states g).completed).round ≡ 0
    first = running.of_round ∙ ap (λ (s : ShardState). s.round) state_is

    unsent : (k : ℕ) → k < layout.shards → (entered_m.states k).sent ≤ (m.states g).completed + 1
    unsent k lk = elim (cases_eq k g) [
      | inl e ↦ rw (e, state_is) (omega (arith, level))
      | inr o ↦ rw (other_is k o) (let come = (right.clocks k lk).come g may.within in elim (right.clocks k lk).phase [ inl p ↦ omega (arith, p.ahead, come, level) | inr p ↦ omega (arith, p.level, come, level) ])
    ]

    nothing_lowers : (a : Address) → lowered_on_way layout entered_m a ≡ 0
    nothing_lowers a =
        let h : ℕ = layout.home a in
        let come : (m.states h).completed ≤ (m.states g).sent = (right.clocks h (layout.within a)).come g may.within in
        let sh = same_completed h in
        let sg = same_completed g in
        elim (beside layout entered_m.states entered_right.clocks g h may.within (layout.within a)) [
          | inl p ↦ (
              let row : (label_of layout entered_m.states (entered_m.states h).completed).round ≡ 0 = omega (arith, p.2, first) in
              let one = lowered_first layout entered_m.states entered_right.clocks (entered_m.states h).completed a row in
              let two = lowered_unsent layout entered_m.states entered_right.clocks ((entered_m.states h).completed + 1) a (λ k lk. (let u = unsent k lk in let same = p.0 in omega (arith, u, same, sg))) in
              omega (arith, one, two)
              )
          | inr (inl p) ↦ absurd (omega (arith, p.0, come, sh, sg, level))
          | inr (inr p) ↦ (
              let next : (entered_m.states g).completed ≡ (entered_m.states h).completed + 1 = p.0 in
              let two = lowered_first layout entered_m.states entered_right.clocks ((entered_m.states h).completed + 1) a (subst (λ k. (label_of layout entered_m.states k).round ≡ 0) next first) in
              elim p.1 [
                | inl q ↦ (let one = lowered_last layout entered_m.states entered_right.clocks (entered_m.states h).completed a q.1 in omega (arith, one, two))
                | inr q ↦ absurd (omega (arith, q.2, first))
              ]
              )
        ]

    pub bounded_entered : ((a : Address) → indegree entered_m a ≤ most) → IsBounded layout entered_m
    bounded_entered low b k =
        let right_count = (counts_entered layout m right g may).present b k in
        let none = nothing_lowers b.address in
        let top = low b.address in
        omega (arith, right_count, none, top)

  -- ---- the end of a round

  module _ (g : ℕ) (may : MayComplete layout m g) (more : ((m.states g).round ≡ 0) ⊎ (1 ≤ total_in layout m.states (m.states g).completed)) where
    abbrev searched_m : Machine
    searched_m = after_search layout g m

    ahead : (m.states g).sent ≡ (m.states g).completed + 1
    ahead = (run layout m right g may more).ahead

    beyond : (k : ℕ) → k < layout.shards → (m.states k).sent ≤ (m.states g).completed + 1 + 1
    beyond k lk = omega (arith, sent_near layout m.states right.clocks g k may.within lk)

    there : (a : Address) → layout.home a ≢ g → raised_on_way layout searched_m a ≡ raised_on_way layout m a
    there a o =
        let k : ℕ = (m.states (layout.home a)).completed in
        let low : k ≤ (m.states g).sent = (right.clocks (layout.home a) (layout.within a)).come g may.within in
        let sent = may.sent (layout.home a) (layout.within a) in
        let high : (m.states g).sent ≤ k + 1 = elim (right.clocks (layout.home a) (layout.within a)).phase [ inl p ↦ omega (arith, ahead, p.ahead, sent) | inr p ↦ omega (arith, ahead, p.level, sent) ] in
        rw (set_at_other g (new layout m right g may more) m.states (layout.home a) o) (omega (arith, raised_sent layout m.states right.clocks g may.within (round_of layout m right g may more) (new layout m right g may more) refl refl k a low high, times_none a))

    here : (a : Address) → layout.home a ≡ g → raised_on_way layout searched_m a ≡ raised_in layout m.states ((m.states g).completed + 1) a
    here a e =
        let up = raised_sent layout m.states right.clocks g may.within (round_of layout m right g may more) (new layout m right g may more) refl refl ((m.states g).completed + 1) a (omega (arith, ahead)) (omega (arith, ahead)) in
        rw (e, set_at_self g (new layout m right g may more) m.states) (omega (arith, up, times_none a, raised_unsent layout m.states right.clocks ((m.states g).completed + 1 + 1) a beyond))

    pub bounded_searched : IsBounded layout searched_m
    bounded_searched c k =
        let o = member_of_map (change_of layout m right g may more) c m.blocks k in
        let b : BlockRecord = o.0 in
        let low = bounded b o.1 in
        elim (found layout m right g may more b) [
          | inl p ↦ subst (λ (x : BlockRecord). x.count + raised_on_way layout searched_m x.address ≤ most) (sym (o.2 ∙ p.1)) (omega (arith, low, there b.address p.0))
          | inr (inl z) ↦ subst (λ (x : BlockRecord). x.count + raised_on_way layout searched_m x.address ≤ most) (sym (o.2 ∙ z.1)) (moved b z.0.here low)
          | inr (inr p) ↦ subst (λ (x : BlockRecord). x.count + raised_on_way layout searched_m x.address ≤ most) (sym (o.2 ∙ p.2)) (moved b p.0 low)
        ]
      where
        moved : (b : BlockRecord) → layout.home b.address ≡ g → b.count + raised_on_way layout m b.address ≤ most
            → ((b.count + raised_in layout m.states (m.states g).completed b.address) - lowered_in layout m.states (m.states g).completed b.address) + raised_on_way layout searched_m b.address ≤ most
        moved b e low =
            let was : b.count + (raised_in layout m.states (m.states g).completed b.address + raised_in layout m.states ((m.states g).completed + 1) b.address) ≤ most = rw e at low in
            let is = here b.address e in
            omega (arith, was, is)

  module _ (g : ℕ) (last : IsAtTheLast layout m g) where
    abbrev swept_m : Machine
    swept_m = after_sweep layout g m

    less : (a : Address) → raised_on_way layout swept_m a ≤ raised_on_way layout m a
    less a = elim (cases_eq (layout.home a) g) [
      | inl e ↦ (
          let one = raised_same layout m.states right.clocks g last.within (state_swept (m.states g)) refl refl ((m.states g).completed + 1) a in
          let two = raised_same layout m.states right.clocks g last.within (state_swept (m.states g)) refl refl ((m.states g).completed + 1 + 1) a in
          let none = raised_unsent layout m.states right.clocks ((m.states g).completed + 1 + 1) a (λ k lk. omega (arith, sent_near layout m.states right.clocks g k last.within lk)) in
          rw (e, set_at_self g (state_swept (m.states g)) m.states) (omega (arith, one, two, none))
          )
      | inr o ↦ (
          let k : ℕ = (m.states (layout.home a)).completed in
          let one = raised_same layout m.states right.clocks g last.within (state_swept (m.states g)) refl refl k a in
          let two = raised_same layout m.states right.clocks g last.within (state_swept (m.states g)) refl refl (k + 1) a in
          rw (set_at_other g (state_swept (m.states g)) m.states (layout.home a) o) (omega (arith, one, two))
          )
    ]

    pub bounded_swept : IsBounded layout swept_m
    bounded_swept c k =
        let o = member_of_map (change_if (is_at layout g) spared) c (filter (λ b. not (is_at layout g b && is_removed (m.states g).epoch b)) m.blocks) k in
        let b : BlockRecord = o.0 in
        let inside = (member_of_filter (λ b. not (is_at layout g b && is_removed (m.states g).epoch b)) b m.blocks o.1).0 in
        let low = bounded b inside in
        let down = less b.address in
        let held : b.count + raised_on_way layout swept_m b.address ≤ most = omega (arith, low, down) in
        elim (change_if_cases (is_at layout g) spared b) [
          | inl p ↦ elim (change_if_cases (λ (b : BlockRecord). b.zero) renewed b) [
            | inl q ↦ subst (λ (x : BlockRecord). x.count + raised_on_way layout swept_m x.address ≤ most) (sym (o.2 ∙ p.1 ∙ q.1)) held
            | inr q ↦ subst (λ (x : BlockRecord). x.count + raised_on_way layout swept_m x.address ≤ most) (sym (o.2 ∙ p.1 ∙ q.1)) held
          ]
          | inr p ↦ subst (λ (x : BlockRecord). x.count + raised_on_way layout swept_m x.address ≤ most) (sym (o.2 ∙ p.1)) held
        ]

pub bounded_empty : (layout : Layout) → IsBounded layout empty_machine
bounded_empty layout b k = elim k [ ]

-- ---- how often blocks and roots of a shard name an address at most

weight_low : (a : Address) (b : BlockRecord) (k : ℕ) → length b.pointers ≤ k → block_weight a b ≤ k
unfolding block_weight times
weight_low a b k l = go (b.counted && not b.zero)
  where
    go : (t : Bool) → cond t (count_by (is_same a) b.pointers) 0 ≤ k
    go true = omega (arith, count_by-le-length (is_same a) b.pointers, l)
    go false = omega arith

pub blocks_low : (a : Address) (es : List (Address × Facts)) → ((e : Address × Facts) → Member e es → length e.1.present.stored.pointers ≤ 64) → sum_by (block_weight a) (map seen_block es) ≤ 64 * length es
blocks_low a [] h = omega arith
blocks_low a (e ∷ es) h = omega (arith, sum_by-cons (block_weight a) (seen_block e) (map seen_block es), weight_low a (seen_block e) 64 (h e (inl refl)), blocks_low a es (λ x m. h x (inr m)))

root_low : (a : Address) (shard : ℕ) (r : RootFacts) → root_weight a (seen_root shard r) ≤ 1
unfolding root_weight times
root_low a shard r = go r.counted
  where
    go : (t : Bool) → cond t (count_by (is_same a) (r.root.address ∷ [])) 0 ≤ 1
    go true = count_by-le-length (is_same a) (r.root.address ∷ [])
    go false = omega arith

pub roots_low : (a : Address) (shard : ℕ) (rs : List RootFacts) → sum_by (root_weight a) (map (seen_root shard) rs) ≤ length rs
roots_low a shard [] = omega arith
roots_low a shard (r ∷ rs) = omega (arith, sum_by-cons (root_weight a) (seen_root shard r) (map (seen_root shard) rs), root_low a shard r, roots_low a shard rs)

pub sum_low : (n k : ℕ) (f : ℕ → ℕ) → ((h : ℕ) → h < n → f h ≤ k) → sum_below n f ≤ n * k
unfolding sum_below
sum_low zero k f l = omega arith
sum_low (suc n) k f l = let first = l n (omega arith) in let rest = sum_low n k f (λ h lh. l h (omega (arith, lh))) in let more : suc n * k ≡ k + n * k = grind arith in omega (arith, first, rest, more)
