-- The end of a round: the machine's shard completes its row, and the plain store sweeps where it is the last.
use Rattle.std.proofs.Common.{◌≡◌, ◌⊎◌, inl, inr, ℕ, zero, suc, ◌+◌, ◌-◌, ◌<◌, ◌≤◌, ◌^◌, ◌==◌, ◌&&◌, List, [], ◌∷◌, ◌++◌, length, map, take, Bool, true, false, cond, if◌then◌else◌, Option, Some, None, is_some, refl, sym, ap, ◌∙◌, subst, arith, nat_le, nat_lt, slice_set}
use Rattle.std.proofs.lemmas.Bool.{and_parts, eqb-true, cases_eq}
use Rattle.std.proofs.lemmas.Bool.Decides.{nat_tests}
use Rattle.std.proofs.lemmas.List.Elements.{All-from_recursion}
use Rattle.std.specs.Prelude.{slice_get}
use Rattle.std.specs.Option.{option_map, option_map_or}
use Rattle.hs_limits.specs.declared.address.Address.{Address}
use Rattle.hs_limits.specs.Shape.{shard_of}
use Rattle.hs_model.specs.Inner.{stays, sweep as sweep_store}
use Rattle.hs_model.proofs.Members.{Member, member_from_contains, contains_from_member}
use Rattle.hs_rounds.specs.declared.body.RoundBody.{RoundBody}
use Rattle.hs_rounds.specs.declared.sending.SentRound.{SentRound}
use Rattle.hs_rounds.specs.Rounds.{told_by, have_told, from_round, body_for, bodies_for}
use Rattle.hs_deletion.specs.Machine.{Layout, Round, ShardState, Machine}
use Rattle.hs_deletion.specs.Rounds.{times, next_round, total_in, raised_in, lowered_in}
use Rattle.hs_deletion.specs.Steps.{blocks_at, roots_at, recounted_at, after_search, after_sweep, state_searched, state_swept}
use Rattle.hs_deletion.specs.Clocks.{label_of, IsRunning}
use Rattle.hs_deletion.specs.Catalogue.{ShardCatalogue, sends_next}
use Rattle.hs_deletion.specs.Catalogue.{is_complete as is_complete_there}
use Rattle.hs_deletion.specs.Following.{IsSent, IsFollowing, AreFollowing}
use Rattle.hs_deletion.specs.History.{MayComplete, IsMade}
use Rattle.hs_deletion.specs.History.{is_last as is_last_there}
use Rattle.hs_deletion.specs.History.Effect.{Completes}
use Rattle.hs_deletion.specs.Anchors.{IsThere}
use Rattle.hs_deletion.specs.Invariants.{IsRight}
use Rattle.hs_deletion.proofs.LabelLemmas.{last_tells, not_last_tells, label_rises, label_tells}
use Rattle.hs_deletion.proofs.ClockLemmas.{unswept_of}
use Rattle.hs_deletion.proofs.SumLemmas.{set_at_self, set_at_other}
use Rattle.hs_deletion.proofs.RoundLemmas.{times_member}
use Rattle.hs_deletion.proofs.SentLemmas.{labels_stay, labels_same}
use Rattle.hs_deletion.proofs.WayLemmas.{lowered_last, raised_late}
use Rattle.hs_deletion.proofs.OpenLemmas.{running, round_is, may_complete, raised_same, lowered_same, last_same}
use Rattle.hs_deletion.proofs.FollowLemmas.{IsStepAt}
use Rattle.hs_deletion.proofs.FollowShards.{search_elsewhere, search_follows, search_sends, sweep_elsewhere, sweep_follows}
use Rattle.hs_deletion.proofs.HistoryKeeps.{right_made, made_after, at_the_last}
use Rattle.hs_deletion.proofs.SearchCounts.{fits}
use Rattle.hs_fold.specs.Lawful.{shard_at}
use Rattle.hs_fold.specs.Runs.Counts.{amount_at}
use Rattle.hs_fold.specs.Runs.Facts.{Facts, Catalogue}
use Rattle.hs_fold.specs.Runs.Fits.{catalogue_at}
use Rattle.hs_fold.specs.Runs.Opened.{store_of}
use Rattle.hs_fold.specs.Runs.Own.{IsOwn, AreOwn}
use Rattle.hs_fold.specs.Runs.Rounds.{is_running, is_complete, is_last, open_deltas, settled, search, sweep, end_round, next_deltas, next_total, is_released, is_new_zero}
use Rattle.hs_fold.specs.Runs.Told.{pointers_of, addresses_of}
use Rattle.hs_fold.specs.Shards.Setting.{Setting}
use Rattle.hs_fold.proofs.Runs.EndDeedLemmas.{Released, end-searches, end-sweeps}
use Rattle.hs_fold.proofs.Runs.OwnLemmas.{end-own}
use Rattle.hs_fold.proofs.Runs.RoomLemmas.{end-fits}
use Rattle.hs_fold.proofs.Runs.SmallLemmas.{by-each}
use Rattle.hs_fold.proofs.Shards.PlaceLemmas.{length-set}
use Rattle.hs_joint.specs.Numbers.{TellsAll, CountsTakeAll}
use Rattle.hs_joint.specs.Seen.{layout_of, seen_block, seen_round, seen, all_seen}
use Rattle.hs_joint.proofs.BoundLemmas.{bounded_searched, bounded_swept}
use Rattle.hs_joint.proofs.CutLemmas.{body_told, lowered_there}
use Rattle.hs_joint.proofs.EndLikeLemmas.{search_like, IsUntold, sweep_like}
use Rattle.hs_joint.proofs.FewLemmas.{HaveFew, few_end}
use Rattle.hs_joint.proofs.GotLookups.{kept_is_old}
use Rattle.hs_joint.proofs.LikeLemmas.{IsWithin, open_sums, raised_open, lowered_open, follow_like, complete_seen, last_seen, told_each}
use Rattle.hs_joint.proofs.ReachedLemmas.{there_at, released_goes, gone_is}
use Rattle.hs_joint.proofs.SendLemmas.{told_whole, part_whole}
use Rattle.hs_joint.proofs.StandLemmas.{own_set, same_rows, more_rows, IsStanding, GoesOn, right, own_here, follow_on, join_on, room_on, few_on}
use Rattle.hs_joint.proofs.TellLemmas.{next_named, next_told, next_total_told}

-- a member of what is kept of a list
pub taken : {X : Type 0} (k : ℕ) (x : X) (xs : List X) → Member x (take k xs) → Member x xs
taken zero x [] m = elim m [ ]
taken zero x (y ∷ ys) m = elim m [ ]
taken (suc k) x [] m = elim m [ ]
taken (suc k) x (y ∷ ys) (inl e) = inl e
taken (suc k) x (y ∷ ys) (inr m) = inr (taken k x ys m)

-- what tells each address of a shard the same was sent to it too
pub resent : (layout : Layout) (s : ℕ → ShardState) (to h epoch round : ℕ) (b other : Round) → ((a : Address) → layout.home a ≡ to → times a other.raises ≡ times a b.raises) → ((a : Address) → layout.home a ≡ to → times a other.lowers ≡ times a b.lowers) → other.total ≡ b.total
    → IsSent layout s to h epoch round b → IsSent layout s to h epoch round other
resent layout s to h epoch round b other u d t i = record {
  within = i.within;
  row = i.row;
  sent = i.sent;
  of_epoch = i.of_epoch;
  of_round = i.of_round;
  raises = λ a q. u a q ∙ i.raises a q;
  lowers = λ a q. d a q ∙ i.lowers a q;
  total = t ∙ i.total;
}

module _ (set : Setting) (some : 0 < set.shape.shards) (cs : List Catalogue) (m : Machine) (st : IsStanding set some cs m) (g : ℕ) (lg : g < set.shape.shards) (complete : is_complete set.shape.shards (catalogue_at cs g) ≡ true) where
  abbrev n : ℕ
  n = set.shape.shards

  abbrev L : Layout
  L = layout_of n some

  abbrev c : Catalogue
  c = catalogue_at cs g

  abbrev C : ShardCatalogue
  C = seen g c

  R : IsRight L m
  R = right set some cs m st

  follows : IsFollowing L m g C
  follows = st.joined.followed.each g lg

  done : is_complete_there n C ≡ true
  done = complete_seen g c n complete

  pub may : MayComplete L m g
  may = may_complete L m R g lg C follows done

  pub last_is : is_last n c ≡ is_last_there L g m
  last_is = last_seen g c n complete ∙ last_same L m R g lg C follows done

  run : IsRunning L m.states (m.states g)
  run = running L m R g lg C follows done

  round_there : c.round ≡ (m.states g).round
  round_there = round_is L m R g lg C follows done

  abbrev row : ℕ
  row = (m.states g).completed

  abbrev made : IsMade L m
  made = st.joined.followed.made

  -- ---- counts stay within their bounds

  module _ (e : Address × Facts) (k : Member e c.blocks) where
    in_machine : Member (seen_block e) m.blocks × (shard_of n e.0 ≡ g)
    in_machine = there_at n some cs st.joined.each st.joined.own m st.joined.followed.each g lg e k

    raised_is : raised_open g c n e.0 ≡ raised_in L m.states row e.0
    raised_is = raised_same L m R g lg C follows done e.0 in_machine.1

    lowered_is : lowered_open g c n e.0 ≡ lowered_in L m.states row e.0
    lowered_is = lowered_same L m R g lg C follows done e.0 in_machine.1

    above : e.1.count + raised_open g c n e.0 < 2 ^ 32
    above =
        let low : e.1.count + (raised_in L m.states row e.0 + raised_in L m.states (row + 1) e.0) ≤ 142606336 = subst (λ j. e.1.count + (raised_in L m.states (m.states j).completed e.0 + raised_in L m.states ((m.states j).completed + 1) e.0) ≤ 142606336) in_machine.1 (st.bounded (seen_block e) in_machine.0) in
        omega (arith, low, raised_is)

    within_more : ((m.states g).round ≡ 0) ⊎ (1 ≤ total_in L m.states row) → IsWithin g c n e
    within_more more = record {
      above = above;
      below = (let f = fits L m R g may more e.0 e.1.count in_machine.1 (R.counts.present (seen_block e) in_machine.0) in omega (arith, f, raised_is, lowered_is));
    }

    untold : 1 ≤ (m.states g).round → total_in L m.states row ≡ 0 → IsUntold n g c e
    untold late none =
        let down = lowered_last L m.states R.clocks row e.0 none in
        let label : 1 ≤ (label_of L m.states row).round = (let r = run.of_round in omega (arith, r, late)) in
        let up = raised_late L m.states R.clocks row e.0 label in
        record {
          within = record { above = above; below = omega (arith, lowered_is, down) };
          raised = omega (arith, raised_is, up);
          lowered = omega (arith, lowered_is, down);
        }

  -- ---- the last round: the shard's sweep

  module _ (over : is_last n c ≡ true) where
    over_there : is_last_there L g m ≡ true
    over_there = sym last_is ∙ over

    parts : (1 ≤ (m.states g).round) × (total_in L m.states row ≡ 0)
    parts = last_tells (m.states g).round (total_in L m.states row) over_there

    abbrev d : Catalogue
    d = sweep (settled n c)

    pub sweeps_to : end_round n c ≡ d
    sweeps_to = ap (λ b. cond b (sweep (settled n c)) (search n (settled n c))) over

    step : IsStepAt L g m (after_sweep L g m)
    step = sweep_elsewhere L m R g lg C follows done

    pub swept_goes : GoesOn set some cs m g d
    swept_goes = record {
      later = after_sweep L g m;
      standing = record {
        joined = join_on set some cs m st g lg d (after_sweep L g m)
            (subst (λ x. IsMade L x) (ap (λ b. if b then after_sweep L g m else after_search L g m) over_there) (made_after L m (Completes g) made may))
            step
            (follow_like L (after_sweep L g m) g (seen g d) _ (sweep_like n g c (λ e k. untold e k parts.0 parts.1)) (sweep_follows L m R g lg C follows done))
            (subst (λ x. IsOwn n g x) sweeps_to own_end)
            (λ kept among to told tells. step.sent to g kept.epoch kept.round (seen_round kept.round told) (st.joined.sent g lg kept among to told tells))
            (λ row l. labels row)
            (same_rows L m (after_sweep L g m) g c.sent sent_same (λ row l. labels row) (st.joined.last g lg));
        bounded = bounded_swept L m R st.bounded g (at_the_last L m g may over_there);
        room = room_on set some cs m st g lg d (after_sweep L g m) (subst (λ x. length x.blocks ≤ 16384) sweeps_to room_end);
        few = few_on set some cs m st g lg d (after_sweep L g m) (subst (λ x. HaveFew x) sweeps_to (few_end n c (st.few g lg)));
      };
      moves = step.sent;
      sends = inl (refl, sent_same);
      states = step.states;
    }
      where
        labels : (row : ℕ) → label_of L (after_sweep L g m).states row ≡ label_of L m.states row
        labels row = labels_same L m.states R.clocks g lg (state_swept (m.states g)) refl refl row

        sent_same : ((after_sweep L g m).states g).sent ≡ (m.states g).sent
        sent_same = ap (λ (x : ShardState). x.sent) (set_at_self g (state_swept (m.states g)) m.states)

        room_end : length (end_round n c).blocks ≤ 16384
        room_end = end-fits n c (st.room g lg)

        own_end : IsOwn n g (end_round n c)
        own_end = end-own (shard_at set.name n g) n c (own_here set some cs m st g lg)

    pub swept_store : store_of (slice_set cs g (end_round n c)) ≡ sweep_store (store_of cs) g
    swept_store = end-sweeps set g cs st.joined.each lg st.joined.own over (λ e k. gone_is n some cs st.joined.each st.joined.own m st.joined.followed.each R g lg may over_there e k)

  -- ---- any other: new zero blocks are found, and the next round is sent

  module _ (goes : is_last n c ≡ false) where
    goes_there : is_last_there L g m ≡ false
    goes_there = sym last_is ∙ goes

    more : ((m.states g).round ≡ 0) ⊎ (1 ≤ total_in L m.states row)
    more = not_last_tells (m.states g).round (total_in L m.states row) goes_there

    abbrev s : Catalogue
    s = search n (settled n c)

    abbrev searched_m : Machine
    searched_m = after_search L g m

    pub searches_to : end_round n c ≡ s
    searches_to = ap (λ b. cond b (sweep (settled n c)) (search n (settled n c))) goes

    step_search : IsStepAt L g m searched_m
    step_search = search_elsewhere L m R g lg C follows done

    made_search : IsMade L searched_m
    made_search = subst (λ x. IsMade L x) (ap (λ b. if b then after_sweep L g m else after_search L g m) goes_there) (made_after L m (Completes g) made may)

    within : (e : Address × Facts) → Member e c.blocks → IsWithin g c n e
    within e k = within_more e k more

    follows_search : IsFollowing L searched_m g (seen g s)
    follows_search = follow_like L searched_m g (seen g s) _ (search_like n g c within) (search_follows L m R g lg C follows done)

    follow_search : AreFollowing L searched_m (all_seen (slice_set cs g s))
    follow_search = follow_on set some cs m st g lg s searched_m step_search follows_search

    own_search : IsOwn n g s
    own_search = subst (λ x. IsOwn n g x) searches_to (end-own (shard_at set.name n g) n c (own_here set some cs m st g lg))

    own_all : AreOwn n 0 (slice_set cs g s)
    own_all = own_set n 0 cs st.joined.own g (let e = st.joined.each in omega (arith, lg, e)) s (subst (λ j. IsOwn n j s) (zero_left g) own_search)
      where
        zero_left : (j : ℕ) → j ≡ 0 + j
        zero_left j = omega arith

    room_search : (k : ℕ) → k < n → length (catalogue_at (slice_set cs g s) k).blocks ≤ 16384
    room_search = room_on set some cs m st g lg s searched_m (subst (λ x. length x.blocks ≤ 16384) searches_to (end-fits n c (st.room g lg)))

    abbrev named : List Address
    named = pointers_of (is_new_zero c.epoch) (settled n c).blocks ++ addresses_of (is_released (settled n c)) c.roots

    sent_there : (to : ℕ) → IsSent L searched_m.states to g c.epoch (c.round + 1) (sends_next n C)
    sent_there to = search_sends L m R g lg C follows done more to

    completed_low : (h : ℕ) → h < n → (searched_m.states h).completed ≤ (m.states g).sent
    completed_low h lh = elim (cases_eq h g) [
      | inl e ↦ (let ahead = run.ahead in rw (e, set_at_self g (state_searched L g m) m.states) (omega (arith, ahead)))
      | inr o ↦ rw (set_at_other g (state_searched L g m) m.states h o) ((R.clocks h lh).come g lg)
    ]

    right_search : IsRight L searched_m
    right_search = right_made L searched_m made_search

    state_search : searched_m.states g ≡ state_searched L g m
    state_search = set_at_self g (state_searched L g m) m.states

    -- it is the row that the shard completes next
    row_sent : (to : ℕ) → (sent_there to).row ≡ (m.states g).sent
    row_sent to =
        let i = sent_there to in
        let run' = unswept_of L searched_m.states right_search.clocks g lg (rw state_search (let u = run.unswept in omega (arith, u))) in
        let done' : (searched_m.states g).completed ≡ row + 1 = ap (λ (x : ShardState). x.completed) state_search in
        let epoch' : (searched_m.states g).epoch ≡ (m.states g).epoch = ap (λ (x : ShardState). x.epoch) state_search in
        let round' : (searched_m.states g).round ≡ (m.states g).round + 1 = ap (λ (x : ShardState). x.round) state_search in
        let e1 = run'.of_epoch in
        let e2 = run'.of_round in
        let i1 = i.of_epoch in
        let i2 = i.of_round in
        let f = follows.epoch in
        let ahead = run.ahead in
        let same = label_tells L searched_m.states i.row (searched_m.states g).completed (omega (arith, e1, i1, epoch', f)) (omega (arith, e2, i2, round', round_there)) in
        omega (arith, same, done', ahead)

    named_there : (a : Address) → Member a named → IsThere searched_m.blocks a
    named_there a k =
        let i = sent_there (shard_of n a) in
        let inside : Member a (sends_next n C).lowers = subst (λ xs. Member a xs) (next_named n g c within) k in
        let count = times_member a (sends_next n C).lowers inside in
        let same = i.lowers a refl in
        let at = row_sent (shard_of n a) in
        let low = completed_low (shard_of n a) (L.within a) in
        lowered_there L searched_m right_search g lg i.row a i.sent (omega (arith, low, at)) (omega (arith, count, same))

    positive : ((c.round + 1) == 0) ≡ false
    positive = grind (arith, nat_tests)

    new_sent : (to : ℕ) (told : RoundBody) → slice_get (bodies_for n (next_total (settled n c)) (next_deltas (settled n c))) to ≡ Some told → IsSent L searched_m.states to g c.epoch (c.round + 1) (seen_round (c.round + 1) told)
    new_sent to told tells =
        let b = body_told n (next_total (settled n c)) (next_deltas (settled n c)) to told tells in
        subst (λ x. IsSent L searched_m.states to g c.epoch (c.round + 1) (seen_round (c.round + 1) x)) b.1
        (resent L searched_m.states to g c.epoch (c.round + 1) (sends_next n C) (seen_round (c.round + 1) (body_for n (next_total (settled n c)) (next_deltas (settled n c)) to))
        (λ a e. rw positive refl)
        (λ a e. rw positive (told_whole n some (slice_set cs g s) (length-set cs g s ∙ st.joined.each) own_all searched_m follow_search to b.0 (room_search to b.0) named (λ x k q. named_there x k) a e ∙ next_told n g c within a))
        (next_total_told n g c within)
        (sent_there to))

    pub next_whole : TellsAll n (next_deltas (settled n c))
    next_whole to lt = part_whole n some (slice_set cs g s) (length-set cs g s ∙ st.joined.each) own_all searched_m follow_search to lt (room_search to lt) named (λ x k q. named_there x k)

    pub searched_goes : GoesOn set some cs m g s
    searched_goes = record {
      later = searched_m;
      standing = record {
        joined = join_on set some cs m st g lg s searched_m made_search step_search follows_search own_search (λ kept among to told tells. kept_sent kept (member_from_contains kept s.sent among) to told tells)
            (λ row l. labels row l)
            (more_rows L m searched_m g c.sent new_kept sent_more (λ row l. labels row (omega (arith, l))) new_epoch new_round_is (st.joined.last g lg));
        bounded = bounded_searched L m R st.bounded g may more;
        room = room_search;
        few = few_on set some cs m st g lg s searched_m (subst (λ x. HaveFew x) searches_to (few_end n c (st.few g lg)));
      };
      moves = step_search.sent;
      sends = inr (new_kept, refl, sent_more);
      states = step_search.states;
    }
      where
        new_kept : SentRound
        new_kept = record { epoch = c.epoch; round = c.round + 1; bodies = bodies_for n (next_total (settled n c)) (next_deltas (settled n c)) }

        sent_more : (searched_m.states g).sent ≡ (m.states g).sent + 1
        sent_more = ap (λ (x : ShardState). x.sent) state_search

        labels : (row : ℕ) → row ≤ (m.states g).sent → label_of L searched_m.states row ≡ label_of L m.states row
        labels row l = labels_stay L m.states R.clocks g lg (next_round (m.states g).round (m.states g).epoch (map (recounted_at L g m) (blocks_at L g m.blocks)) (roots_at g m.roots)) (state_searched L g m) refl refl row l

        new_epoch : (label_of L searched_m.states (m.states g).sent).epoch ≡ c.epoch
        new_epoch = (let i = sent_there 0 in subst (λ j. (label_of L searched_m.states j).epoch ≡ c.epoch) (row_sent 0) i.of_epoch)

        new_round_is : (label_of L searched_m.states (m.states g).sent).round ≡ c.round + 1
        new_round_is = (let i = sent_there 0 in subst (λ j. (label_of L searched_m.states j).round ≡ c.round + 1) (row_sent 0) i.of_round)

        kept_sent : (kept : SentRound) → Member kept s.sent → (to : ℕ) (told : RoundBody) → slice_get kept.bodies to ≡ Some told → IsSent L searched_m.states to g kept.epoch kept.round (seen_round kept.round told)
        kept_sent kept (inl e) to told tells = rw e (new_sent to told (ap (λ (x : SentRound). slice_get x.bodies to) (sym e) ∙ tells))
        kept_sent kept (inr k) to told tells = step_search.sent to g kept.epoch kept.round (seen_round kept.round told) (st.joined.sent g lg kept (contains_from_member kept c.sent (taken 1 kept c.sent k)) to told tells)

    pub searched_store : store_of (slice_set cs g (end_round n c)) ≡ store_of cs
    searched_store = end-searches set g cs st.joined.each lg st.joined.own goes released
      where
        released : Released cs c
        released r k t = go r.root.dropped refl
          where
            a : ((c.round == 0) ≡ true) × (r.counted && option_map_or (λ d. nat_le (d + 2) c.epoch) r.root.dropped false ≡ true)
            a = and_parts (c.round == 0) (r.counted && option_map_or (λ d. nat_le (d + 2) c.epoch) r.root.dropped false) t

            p : (r.counted ≡ true) × (option_map_or (λ d. nat_le (d + 2) c.epoch) r.root.dropped false ≡ true)
            p = and_parts r.counted (option_map_or (λ d. nat_le (d + 2) c.epoch) r.root.dropped false) a.1

            first : (m.states g).round ≡ 0
            first = sym round_there ∙ eqb-true c.round 0 a.0

            go : (d : Option ℕ) → r.root.dropped ≡ d → stays (store_of cs) r.root ≡ false
            go None e = (let no_drop : option_map_or (λ d. nat_le (d + 2) c.epoch) None false ≡ true = rw e at p.1 in cc no_drop)
            go (Some d) e =
                let old : nat_le (d + 2) c.epoch ≡ true = rw e at p.1 in
                released_goes n some cs st.joined.each st.joined.own m st.joined.followed.each R g lg may first r.root d e (grind (arith, nat_tests, old))

  -- ---- counts take all that is told

  pub takes_all : CountsTakeAll n c
  takes_all = record {
    raised = λ first. All-from_recursion (λ (e : Address × Facts). e.1.count + amount_at e.0 (open_deltas n c) < 2 ^ 32) c.blocks (by-each (λ (e : Address × Facts). e.1.count + amount_at e.0 (open_deltas n c) < 2 ^ 32) c.blocks (λ e k. (
        let up : raised_open g c n e.0 ≡ amount_at e.0 (open_deltas n c) = (open_sums g c n e.0 true (grind (arith, nat_tests, first))).0 in
        let low = above e k in
        omega (arith, up, low)
        )));
    lowered = λ late. All-from_recursion (λ (e : Address × Facts). amount_at e.0 (open_deltas n c) ≤ e.1.count) c.blocks (by-each (λ (e : Address × Facts). amount_at e.0 (open_deltas n c) ≤ e.1.count) c.blocks (λ e k. (
        let sums = open_sums g c n e.0 false (grind (arith, nat_tests, late)) in
        let up : raised_open g c n e.0 ≡ 0 = sums.0 in
        let down : lowered_open g c n e.0 ≡ amount_at e.0 (open_deltas n c) = sums.1 in
        below_by e k up down (is_last n c) refl
        )));
  }
    where
      below_by : (e : Address × Facts) → Member e c.blocks → raised_open g c n e.0 ≡ 0 → lowered_open g c n e.0 ≡ amount_at e.0 (open_deltas n c) → (b : Bool) → is_last n c ≡ b → amount_at e.0 (open_deltas n c) ≤ e.1.count
      below_by e k up down true q = (let p = last_tells (m.states g).round (total_in L m.states row) (sym last_is ∙ q) in let none = (untold e k p.0 p.1).lowered in omega (arith, none, down))
      below_by e k up down false q = (let low = (within_more e k (not_last_tells (m.states g).round (total_in L m.states row) (sym last_is ∙ q))).below in omega (arith, low, up, down))

  -- ---- one round at most ends

  pub ends_once : is_complete n (end_round n c) ≡ false
  ends_once = go (is_last n c) refl
    where
      next_untold : have_told n c.epoch (c.round + 1) (from_round c.epoch (c.round + 1) c.got) ≡ false
      next_untold = told_not (have_told n c.epoch (c.round + 1) (from_round c.epoch (c.round + 1) c.got)) refl
        where
          abbrev_got : Catalogue
          abbrev_got = record c { got = from_round c.epoch (c.round + 1) c.got }

          never : (o : Option RoundBody) → told_by c.epoch (c.round + 1) (from_round c.epoch (c.round + 1) c.got) g ≡ o → is_some o ≡ true → ⊥
          never None q e = cc e
          never (Some body) q e =
              let old = kept_is_old c.epoch (c.round + 1) c.got (record { epoch = c.epoch; round = c.round + 1; from = g }) body q in
              let i = follows.got g c.epoch (c.round + 1) (seen_round (c.round + 1) body) (ap (option_map (seen_round (c.round + 1))) old) in
              let up = i.sent in
              let ahead = run.ahead in
              let e1 = i.of_epoch in
              let e2 = i.of_round in
              let r1 = run.of_epoch in
              let r2 = run.of_round in
              let f = follows.epoch in
              let low : i.row ≤ row = omega (arith, up, ahead) in
              elim (cases_eq i.row row) [
                | inl same ↦ (let l : (label_of L m.states i.row).round ≡ (label_of L m.states row).round = ap (λ j. (label_of L m.states j).round) same in omega (arith, l, e2, r2, round_there))
                | inr differs ↦ elim (label_rises L m.states i.row (row - (i.row + 1)) row (omega (arith, low, differs))) [
                  | inl less ↦ omega (arith, less, e1, r1, f)
                  | inr less ↦ (let q1 = less.1 in omega (arith, q1, e2, r2, round_there))
                ]
              ]

          told_not : (b : Bool) → have_told n c.epoch (c.round + 1) (from_round c.epoch (c.round + 1) c.got) ≡ b → have_told n c.epoch (c.round + 1) (from_round c.epoch (c.round + 1) c.got) ≡ false
          told_not false e = e
          told_not true e = absurd (never (told_by c.epoch (c.round + 1) (from_round c.epoch (c.round + 1) c.got) g) refl (told_each g abbrev_got n c.epoch (c.round + 1) e g lg))

      go : (b : Bool) → is_last n c ≡ b → is_complete n (cond b (sweep (settled n c)) (search n (settled n c))) ≡ false
      go true e = (let over : nat_lt c.epoch c.epoch ≡ false = grind (arith, nat_tests) in ap (λ b. b && have_told n c.epoch 0 (from_round c.epoch (c.round + 1) c.got)) over)
      go false e = both_false (is_running c) (have_told n c.epoch (c.round + 1) (from_round c.epoch (c.round + 1) c.got)) next_untold
        where
          both_false : (a b : Bool) → b ≡ false → a && b ≡ false
          both_false true b e = e
          both_false false b e = refl
