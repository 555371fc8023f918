-- Catalogues follow what a shard does by itself, and send what the machine's shard has sent.
use Rattle.std.proofs.Common.{◌≡◌, ℕ, ◌+◌, ◌≤◌, ◌<◌, Bool, true, not, cond, ◌&&◌, List, [], ◌∷◌, ◌++◌, ◌⊎◌, inl, inr, refl, sym, ◌∙◌, ap, arith, map, filter, count_by}
use Rattle.std.proofs.lemmas.Bool.{ne_eqb, eqb-true}
use Rattle.hs_limits.specs.declared.address.Address.{Address}
use Rattle.hs_model.proofs.Members.{member_of_filter}
use Rattle.hs_deletion.specs.Reached.{Member}
use Rattle.hs_deletion.specs.Records.{BlockRecord, RootRecord, change_if, begins, root_begins, entered, root_entered, is_found, searched, is_released, is_removed, spared, renewed}
use Rattle.hs_deletion.specs.Machine.{Layout, Round, Machine, is_at, is_root_at}
use Rattle.hs_deletion.specs.Rounds.{times, pointers_where, addresses_where, first_round, next_round, total_in}
use Rattle.hs_deletion.specs.Steps.{blocks_at, roots_at, state_entered, after_enter, recounted_at, state_searched, after_search, state_swept, after_sweep}
use Rattle.hs_deletion.specs.History.{MayEnter}
use Rattle.hs_deletion.specs.Invariants.{IsRight}
use Rattle.hs_deletion.specs.Catalogue.{ShardCatalogue, sends_first, entered_in, is_complete, recounted_in, sends_next, searched_in, swept_in}
use Rattle.hs_deletion.specs.Following.{HasSame, IsSent, IsFollowing}
use Rattle.hs_deletion.proofs.SumLemmas.{set_at_self, set_at_other}
use Rattle.hs_deletion.proofs.RoundLemmas.{times_append, times_pointers_where, times_addresses_where}
use Rattle.hs_deletion.proofs.SentLemmas.{new_round, labels_stay}
use Rattle.hs_deletion.proofs.ClockLemmas.{idle_of}
use Rattle.hs_deletion.proofs.StepLemmas.{change_if_cases}
use Rattle.hs_deletion.proofs.SameLemmas.{same_map, same_filter, filter_filter_agree, filter_filter_other}
use Rattle.hs_deletion.proofs.SearchLemmas.{next_row}
use Rattle.hs_deletion.proofs.OpenLemmas.{running, round_is, may_complete, recounted_same}
use Rattle.hs_deletion.proofs.FollowLemmas.{sent_more, sent_same, IsStepAt, blocks_elsewhere, blocks_here, roots_elsewhere, roots_here}

-- what some blocks and some roots name is the same for lists that have the same
named_same : (a : Address) (test : BlockRecord → Bool) (root_test : RootRecord → Bool) (bs cs : List BlockRecord) (rs qs : List RootRecord) → HasSame bs cs → HasSame rs qs → times a (pointers_where test bs ++ addresses_where root_test rs) ≡ times a (pointers_where test cs ++ addresses_where root_test qs)
named_same a test root_test bs cs rs qs s t = omega (
  arith,
  times_append a (pointers_where test bs) (addresses_where root_test rs),
  times_append a (pointers_where test cs) (addresses_where root_test qs),
  times_pointers_where a test bs,
  times_pointers_where a test cs,
  times_addresses_where a root_test rs,
  times_addresses_where a root_test qs,
  (same_filter test bs cs s).sums (λ b. times a b.pointers),
  (same_filter root_test rs qs t).sums (λ r. times a r.addresses),
)

count_same : {X : Type 0} (test : X → Bool) (xs ys : List X) → HasSame xs ys → count_by test xs ≡ count_by test ys
count_same test xs ys s = s.sums (λ x. cond (test x) 1 0)

-- a change of one block or root by a test keeps what the change keeps
kept_place : {X Y : Type 0} (part : X → Y) (test : X → Bool) (f : X → X) → ((x : X) → part (f x) ≡ part x) → (x : X) → part (change_if test f x) ≡ part x
kept_place part test f same x = elim (change_if_cases test f x) [ inl p ↦ ap part p.1 ∙ same x | inr p ↦ ap part p.1 ]

module _ (layout : Layout) (m : Machine) (right : IsRight layout m) (g : ℕ) (lg : g < layout.shards) where
  abbrev now : ℕ
  now = (m.states g).epoch

  -- ---- it enters an epoch

  abbrev sent_first : Round
  sent_first = first_round (now + 1) (blocks_at layout g m.blocks) (roots_at g m.roots)

  entered_place : (b : BlockRecord) → (entered (now + 1) b).address ≡ b.address
  entered_place = kept_place (λ (b : BlockRecord). b.address) (begins (now + 1)) (λ b. record b { counted = true }) (λ b. refl)

  root_entered_place : (r : RootRecord) → (root_entered (now + 1) r).home ≡ r.home
  root_entered_place = kept_place (λ (r : RootRecord). r.home) (root_begins (now + 1)) (λ r. record r { counted = true }) (λ r. refl)

  pub enter_elsewhere : IsStepAt layout g m (after_enter layout g m)
  enter_elsewhere = record {
    blocks = λ h o. blocks_elsewhere layout g (entered (now + 1)) entered_place h o m.blocks;
    roots = λ h o. roots_elsewhere g (root_entered (now + 1)) root_entered_place h o m.roots;
    states = λ h o. set_at_other g (state_entered layout g m) m.states h o;
    sent = sent_more layout m.states right.clocks g lg (state_entered layout g m) sent_first refl refl;
  }

  pub enter_follows : (c : ShardCatalogue) → IsFollowing layout m g c → IsFollowing layout (after_enter layout g m) g (entered_in c)
  enter_follows c f = record {
    blocks = rw (blocks_here layout g (entered (now + 1)) entered_place (entered (now + 1)) (λ b e. refl) m.blocks, ← f.epoch) (same_map (entered (c.epoch + 1)) c.blocks (blocks_at layout g m.blocks) f.blocks);
    roots = rw (roots_here g (root_entered (now + 1)) root_entered_place m.roots, ← f.epoch) (same_map (root_entered (c.epoch + 1)) c.roots (roots_at g m.roots) f.roots);
    epoch = rw (set_at_self g (state_entered layout g m) m.states) (omega (arith, f.epoch));
    swept = rw (set_at_self g (state_entered layout g m) m.states) f.swept;
    round = rw (set_at_self g (state_entered layout g m) m.states) (λ l. refl);
    got = λ h e r body q. enter_elsewhere.sent g h e r body (f.got h e r body q);
  }

  -- what it sends is round 0 of its new epoch
  pub enter_sends : MayEnter layout m g → (c : ShardCatalogue) → IsFollowing layout m g c → (to : ℕ) → IsSent layout (after_enter layout g m).states to g (c.epoch + 1) 0 (sends_first c)
  enter_sends may c f to =
      let idle = idle_of layout m.states right.clocks g lg may.is_swept in
      let label = labels_stay layout m.states right.clocks g lg sent_first (state_entered layout g m) refl refl (m.states g).sent (omega arith) in
      let here = new_round layout m.states right.clocks g lg sent_first (state_entered layout g m) refl refl in
      record {
        within = lg;
        row = (m.states g).sent;
        sent = rw (set_at_self g (state_entered layout g m) m.states) (omega arith);
        of_epoch = rw (label, idle.level) (omega (arith, idle.of_epoch, f.epoch));
        of_round = rw (label, idle.level) idle.of_round;
        raises = λ a e. rw (here, ← f.epoch) (named_same a (begins (c.epoch + 1)) (root_begins (c.epoch + 1)) c.blocks (blocks_at layout g m.blocks) c.roots (roots_at g m.roots) f.blocks f.roots);
        lowers = λ a e. rw here refl;
        total = rw here refl;
      }

  -- ---- it completes a row

  module _ (c : ShardCatalogue) (f : IsFollowing layout m g c) (complete : is_complete layout.shards c ≡ true) where
    abbrev search : BlockRecord → BlockRecord
    search b = searched now (recounted_at layout g m b)

    abbrev sent_next : Round
    sent_next = next_round (m.states g).round now (map (recounted_at layout g m) (blocks_at layout g m.blocks)) (roots_at g m.roots)

    abbrev goes : RootRecord → Bool
    goes r = is_root_at g r && is_released (m.states g).round now r

    searched_place : (b : BlockRecord) → (search b).address ≡ b.address
    searched_place b = kept_place (λ (b : BlockRecord). b.address) (is_found now) (λ b. record b { zero = true }) (λ b. refl) (recounted_at layout g m b)

    pub search_elsewhere : IsStepAt layout g m (after_search layout g m)
    search_elsewhere = record {
      blocks = λ h o. blocks_elsewhere layout g search searched_place h o m.blocks;
      roots = λ h o. filter_filter_other (is_root_at h) (λ r. not (goes r)) (λ r t. rw (ne_eqb r.home g (λ q. o (sym (eqb-true r.home h t) ∙ q))) refl) m.roots;
      states = λ h o. set_at_other g (state_searched layout g m) m.states h o;
      sent = sent_more layout m.states right.clocks g lg (state_searched layout g m) sent_next refl refl;
    }

    pub search_follows : IsFollowing layout (after_search layout g m) g (searched_in layout.shards c)
    search_follows = record {
      blocks = rw (blocks_here layout g search searched_place (λ b. searched c.epoch (recounted_in layout.shards c b)) (λ b e. ap (searched now) (recounted_same layout m right g lg c f complete b e) ∙ ap (λ n. searched n (recounted_in layout.shards c b)) (sym f.epoch)) m.blocks) (same_map (λ b. searched c.epoch (recounted_in layout.shards c b)) c.blocks (blocks_at layout g m.blocks) f.blocks);
      roots = rw (filter_filter_agree (is_root_at g) (λ r. not (goes r)) (λ r. not (is_released c.round c.epoch r)) (λ r t. rw (t, round_is layout m right g lg c f complete, f.epoch) refl) m.roots) (same_filter (λ r. not (is_released c.round c.epoch r)) c.roots (roots_at g m.roots) f.roots);
      epoch = rw (set_at_self g (state_searched layout g m) m.states) f.epoch;
      swept = rw (set_at_self g (state_searched layout g m) m.states) f.swept;
      round = rw (set_at_self g (state_searched layout g m) m.states) (λ l. omega (arith, round_is layout m right g lg c f complete));
      got = λ h e r body q. search_elsewhere.sent g h e r body (f.got h e r body q);
    }

    -- what it sends is the next round of its epoch
    pub search_sends : ((m.states g).round ≡ 0) ⊎ (1 ≤ total_in layout m.states (m.states g).completed) → (to : ℕ) → IsSent layout (after_search layout g m).states to g c.epoch (c.round + 1) (sends_next layout.shards c)
    search_sends more to =
        let next_label = next_row layout m right g (may_complete layout m right g lg c f complete) more in
        let run = running layout m right g lg c f complete in
        let label = labels_stay layout m.states right.clocks g lg sent_next (state_searched layout g m) refl refl (m.states g).sent (omega arith) in
        let here = new_round layout m.states right.clocks g lg sent_next (state_searched layout g m) refl refl in
        record {
          within = lg;
          row = (m.states g).sent;
          sent = rw (set_at_self g (state_searched layout g m) m.states) (omega arith);
          of_epoch = rw (label, run.ahead) (omega (arith, next_label.1, f.epoch));
          of_round = rw (label, run.ahead) (omega (arith, next_label.2, round_is layout m right g lg c f complete));
          raises = λ a e. rw here refl;
          lowers = λ a e. rw (here, ← f.epoch, ← round_is layout m right g lg c f complete) (named_same a (is_found c.epoch) (is_released c.round c.epoch) (map (recounted_in layout.shards c) c.blocks) (map (recounted_at layout g m) (blocks_at layout g m.blocks)) c.roots (roots_at g m.roots) blocks_same f.roots);
          total = rw (here, ← f.epoch, ← round_is layout m right g lg c f complete) (omega (arith, count_same (is_found c.epoch) (map (recounted_in layout.shards c) c.blocks) (map (recounted_at layout g m) (blocks_at layout g m.blocks)) blocks_same, count_same (is_released c.round c.epoch) c.roots (roots_at g m.roots) f.roots));
        }
      where
        blocks_same : HasSame (map (recounted_in layout.shards c) c.blocks) (map (recounted_at layout g m) (blocks_at layout g m.blocks))
        blocks_same = rw (map_agree (blocks_at layout g m.blocks) (λ b k. recounted_same layout m right g lg c f complete b (eqb-true (layout.home b.address) g (member_of_filter (is_at layout g) b m.blocks k).1))) (same_map (recounted_in layout.shards c) c.blocks (blocks_at layout g m.blocks) f.blocks)
          where
            map_agree : (bs : List BlockRecord) → ((b : BlockRecord) → Member b bs → recounted_at layout g m b ≡ recounted_in layout.shards c b) → map (recounted_at layout g m) bs ≡ map (recounted_in layout.shards c) bs
            map_agree [] e = refl
            map_agree (b ∷ bs) e = rw (e b (inl refl), map_agree bs (λ x k. e x (inr k))) refl

    spared_place : (b : BlockRecord) → (spared b).address ≡ b.address
    spared_place = kept_place (λ (b : BlockRecord). b.address) (λ b. b.zero) renewed (λ b. refl)

    abbrev gone : BlockRecord → Bool
    gone b = is_at layout g b && is_removed now b

    pub sweep_elsewhere : IsStepAt layout g m (after_sweep layout g m)
    sweep_elsewhere = record {
      blocks = λ h o. blocks_elsewhere layout g spared spared_place h o (filter (λ b. not (gone b)) m.blocks) ∙ filter_filter_other (is_at layout h) (λ b. not (gone b)) (λ b t. rw (ne_eqb (layout.home b.address) g (λ q. o (sym (eqb-true (layout.home b.address) h t) ∙ q))) refl) m.blocks;
      roots = λ h o. refl;
      states = λ h o. set_at_other g (state_swept (m.states g)) m.states h o;
      sent = sent_same layout m.states right.clocks g lg (state_swept (m.states g)) refl refl;
    }

    pub sweep_follows : IsFollowing layout (after_sweep layout g m) g (swept_in c)
    sweep_follows = record {
      blocks = rw (blocks_here layout g spared spared_place spared (λ b e. refl) (filter (λ b. not (gone b)) m.blocks), filter_filter_agree (is_at layout g) (λ b. not (gone b)) (λ b. not (is_removed c.epoch b)) (λ b t. rw (t, f.epoch) refl) m.blocks)
          (same_map spared (filter (λ b. not (is_removed c.epoch b)) c.blocks) (filter (λ b. not (is_removed c.epoch b)) (blocks_at layout g m.blocks)) (same_filter (λ b. not (is_removed c.epoch b)) c.blocks (blocks_at layout g m.blocks) f.blocks));
      roots = f.roots;
      epoch = rw (set_at_self g (state_swept (m.states g)) m.states) f.epoch;
      swept = rw (set_at_self g (state_swept (m.states g)) m.states) f.epoch;
      round = rw (set_at_self g (state_swept (m.states g)) m.states) (λ l. absurd (omega (arith, l)));
      got = λ h e r body q. sweep_elsewhere.sent g h e r body (f.got h e r body q);
    }
