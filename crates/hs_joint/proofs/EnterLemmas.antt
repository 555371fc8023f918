-- An Enter that the plain store allows: the machine's shard enters its next epoch, and no round ends by it.
use Rattle.std.proofs.Common.{◌≡◌, inl, inr, ℕ, zero, suc, ◌+◌, ◌<◌, ◌≤◌, ◌*◌, ◌&&◌, List, [], ◌∷◌, ◌++◌, length, map, Bool, true, false, Option, Some, None, is_some, refl, sym, ap, ◌∙◌, subst, arith, nat_lt, slice_index, slice_set}
use Rattle.std.proofs.lemmas.Bool.{cases_eq}
use Rattle.std.proofs.lemmas.Grind.{common_steps}
use Rattle.std.specs.Prelude.{slice_get}
use Rattle.std.specs.Option.{option_map}
use Rattle.hs_limits.specs.declared.address.Address.{Address}
use Rattle.hs_limits.specs.Shape.{shard_of}
use Rattle.hs_model.specs.Inner.{may_enter}
use Rattle.hs_model.proofs.Members.{Member, member_from_contains, contains_from_member}
use Rattle.hs_laws.proofs.EnterLemmas.{may_enter-gives}
use Rattle.hs_laws.proofs.EpochLemmas.{least_epoch-at}
use Rattle.hs_rounds.specs.declared.body.RoundBody.{RoundBody}
use Rattle.hs_rounds.specs.declared.sending.SentRound.{SentRound}
use Rattle.hs_rounds.specs.Rounds.{told_by, have_told, from_round, body_for, bodies_for}
use Rattle.hs_deletion.specs.Machine.{Layout, ShardState, Machine}
use Rattle.hs_deletion.specs.Rounds.{first_round}
use Rattle.hs_deletion.specs.Counts.{indegree}
use Rattle.hs_deletion.specs.Steps.{blocks_at, roots_at, after_enter, state_entered}
use Rattle.hs_deletion.specs.Clocks.{label_of, IsIdle}
use Rattle.hs_deletion.specs.Catalogue.{ShardCatalogue, sends_first}
use Rattle.hs_deletion.specs.Following.{IsSent, IsFollowing, AreFollowing, named_at, named_in}
use Rattle.hs_deletion.specs.History.{MayEnter, IsMade}
use Rattle.hs_deletion.specs.History.Effect.{Enters}
use Rattle.hs_deletion.specs.Anchors.{IsThere}
use Rattle.hs_deletion.specs.Invariants.{IsRight}
use Rattle.hs_deletion.proofs.LabelLemmas.{label_tells}
use Rattle.hs_deletion.proofs.ClockLemmas.{unswept_of, idle_of, epoch_of_sent}
use Rattle.hs_deletion.proofs.SumLemmas.{set_at_self, set_at_other}
use Rattle.hs_deletion.proofs.RoundLemmas.{times_member}
use Rattle.hs_deletion.proofs.SentLemmas.{labels_stay}
use Rattle.hs_deletion.proofs.FollowCounts.{named_is}
use Rattle.hs_deletion.proofs.FollowLemmas.{IsStepAt}
use Rattle.hs_deletion.proofs.FollowShards.{enter_elsewhere, enter_follows, enter_sends}
use Rattle.hs_deletion.proofs.HistoryKeeps.{right_made, made_after}
use Rattle.hs_fold.specs.Lawful.{shard_at}
use Rattle.hs_fold.specs.Shards.Catalogue.{Catalogue as Plain}
use Rattle.hs_fold.specs.Shards.Setting.{Setting}
use Rattle.hs_fold.specs.Runs.Facts.{Facts, Catalogue, plain}
use Rattle.hs_fold.specs.Runs.Fits.{catalogue_at}
use Rattle.hs_fold.specs.Runs.Opened.{store_of}
use Rattle.hs_fold.specs.Runs.Own.{IsOwn, AreOwn}
use Rattle.hs_fold.specs.Runs.Rounds.{is_complete, enter_epoch, first_deltas, is_new, is_new_root, count_block}
use Rattle.hs_fold.specs.Runs.Told.{pointers_of, addresses_of}
use Rattle.hs_fold.proofs.Runs.OwnLemmas.{enter-own}
use Rattle.hs_fold.proofs.Runs.StepLemmas.{counted-present}
use Rattle.hs_fold.proofs.Shards.PlaceLemmas.{length-set}
use Rattle.hs_joint.specs.Numbers.{TellsAll}
use Rattle.hs_joint.specs.Seen.{layout_of, seen_round, seen, all_seen}
use Rattle.hs_joint.proofs.BoundLemmas.{most, bounded_entered, blocks_low, roots_low, sum_low}
use Rattle.hs_joint.proofs.CutLemmas.{body_told, raised_there}
use Rattle.hs_joint.proofs.EndLemmas.{taken, resent}
use Rattle.hs_joint.proofs.FewLemmas.{HaveFew, few_each}
use Rattle.hs_joint.proofs.GotLookups.{kept_is_old}
use Rattle.hs_joint.proofs.LikeLemmas.{follow_like, enter_like, told_each}
use Rattle.hs_joint.proofs.ListedLemmas.{epoch-at, epochs-length}
use Rattle.hs_joint.proofs.SendLemmas.{told_whole, part_whole}
use Rattle.hs_joint.proofs.StandLemmas.{own_set, more_rows, IsStanding, GoesOn, right, own_here, follow_on, join_on, room_on, few_on}
use Rattle.hs_joint.proofs.TellLemmas.{first_named, first_told}

pub swept-at : (cs : List Catalogue) (k : ℕ) → k < length cs → slice_index (map (λ (p : Plain). p.swept) (map plain cs)) k ≡ (catalogue_at cs k).swept
swept-at [] k l = absurd (omega (arith, l))
swept-at (c ∷ cs) zero l = refl
swept-at (c ∷ cs) (suc k) l = swept-at cs k (grind (arith, common_steps, l))

length_mapped : {X Y : Type 0} (f : X → Y) (xs : List X) → length (map f xs) ≡ length xs
length_mapped f [] = refl
length_mapped f (x ∷ xs) = let rest = length_mapped f xs in omega (arith, rest)

module _ (set : Setting) (some : 0 < set.shape.shards) (cs : List Catalogue) (m : Machine) (st : IsStanding set some cs m) (g : ℕ) (lg : g < set.shape.shards) where
  abbrev n : ℕ
  n = set.shape.shards

  abbrev L : Layout
  L = layout_of n some

  abbrev c : Catalogue
  c = catalogue_at cs g

  abbrev C : ShardCatalogue
  C = seen g c

  R : IsRight L m
  R = right set some cs m st

  follows : IsFollowing L m g C
  follows = st.joined.followed.each g lg

  -- the plain store allows what the machine does
  pub enter_fits : may_enter (store_of cs) g ≡ true → MayEnter L m g
  enter_fits t =
      let each = st.joined.each in
      let filled : 0 < length (store_of cs).epochs = rw (epochs-length cs, each) some in
      let may = may_enter-gives (store_of cs) g filled t in
      let here = epoch-at cs g (omega (arith, lg, each)) in
      record {
        within = lg;
        is_swept = (
            let a = swept-at cs g (omega (arith, lg, each)) in
            let s1 = may.swept in
            let e = follows.epoch in
            let w = follows.swept in
            omega (arith, a, here, e, w, s1)
            );
        lowest = λ h l. (
            let d = epoch-at cs h (omega (arith, l, each)) in
            let low = least_epoch-at (store_of cs) h (rw (epochs-length cs, each) l) in
            let e = follows.epoch in
            let f = (st.joined.followed.each h l).epoch in
            let s2 = may.least in
            omega (arith, here, d, low, e, f, s2)
            );
      }

  -- its round 0 has not come from the shard itself
  pub enter_open : is_complete n (enter_epoch n c) ≡ false
  enter_open = both_false (nat_lt c.swept (c.epoch + 1)) (have_told n (c.epoch + 1) 0 (from_round (c.epoch + 1) 0 c.got)) (told_not (have_told n (c.epoch + 1) 0 (from_round (c.epoch + 1) 0 c.got)) refl)
    where
      both_false : (a b : Bool) → b ≡ false → a && b ≡ false
      both_false true b e = e
      both_false false b e = refl

      later_gots : Catalogue
      later_gots = record c { got = from_round (c.epoch + 1) 0 c.got }

      never : (o : Option RoundBody) → told_by (c.epoch + 1) 0 (from_round (c.epoch + 1) 0 c.got) g ≡ o → is_some o ≡ true → ⊥
      never None q e = cc e
      never (Some body) q e =
          let old = kept_is_old (c.epoch + 1) 0 c.got (record { epoch = c.epoch + 1; round = 0; from = g }) body q in
          let i = follows.got g (c.epoch + 1) 0 (seen_round 0 body) (ap (option_map (seen_round 0)) old) in
          let up = epoch_of_sent L m.states R.clocks g i.row lg i.sent in
          let e1 = i.of_epoch in
          let f = follows.epoch in
          omega (arith, up, e1, f)

      told_not : (b : Bool) → have_told n (c.epoch + 1) 0 (from_round (c.epoch + 1) 0 c.got) ≡ b → have_told n (c.epoch + 1) 0 (from_round (c.epoch + 1) 0 c.got) ≡ false
      told_not false e = e
      told_not true e = absurd (never (told_by (c.epoch + 1) 0 (from_round (c.epoch + 1) 0 c.got) g) refl (told_each g later_gots n (c.epoch + 1) 0 e g lg))

  module _ (may : MayEnter L m g) where
    abbrev d : Catalogue
    d = enter_epoch n c

    abbrev entered_m : Machine
    entered_m = after_enter L g m

    idle : IsIdle L m.states (m.states g)
    idle = idle_of L m.states R.clocks g lg may.is_swept

    step : IsStepAt L g m entered_m
    step = enter_elsewhere L m R g lg

    made : IsMade L entered_m
    made = made_after L m (Enters g) st.joined.followed.made may

    right_later : IsRight L entered_m
    right_later = right_made L entered_m made

    follows_later : IsFollowing L entered_m g (seen g d)
    follows_later = follow_like L entered_m g (seen g d) _ (enter_like g c n) (enter_follows L m R g lg C follows)

    follow_later : AreFollowing L entered_m (all_seen (slice_set cs g d))
    follow_later = follow_on set some cs m st g lg d entered_m step follows_later

    own_later : IsOwn n g d
    own_later = enter-own (shard_at set.name n g) c (own_here set some cs m st g lg) n

    own_all : AreOwn n 0 (slice_set cs g d)
    own_all = own_set n 0 cs st.joined.own g (let e = st.joined.each in omega (arith, lg, e)) d (subst (λ j. IsOwn n j d) (zero_left g) own_later)
      where
        zero_left : (j : ℕ) → j ≡ 0 + j
        zero_left j = omega arith

    room_later : (k : ℕ) → k < n → length (catalogue_at (slice_set cs g d) k).blocks ≤ 16384
    room_later = room_on set some cs m st g lg d entered_m (let same = length_mapped {Y = Address × Facts} (λ (e : Address × Facts). (e.0, count_block (c.epoch + 1) e.1)) c.blocks in let low = st.room g lg in omega (arith, same, low))

    few_later : (k : ℕ) → k < n → HaveFew (catalogue_at (slice_set cs g d) k)
    few_later = few_on set some cs m st g lg d entered_m (few_each (λ e. (e.0, count_block (c.epoch + 1) e.1)) (λ e. counted-present (c.epoch + 1) e.1) c.blocks (st.few g lg))

    -- ---- what it sends

    abbrev named : List Address
    named = pointers_of (is_new (c.epoch + 1)) c.blocks ++ addresses_of (is_new_root (c.epoch + 1)) c.roots

    sent_there : (to : ℕ) → IsSent L entered_m.states to g (c.epoch + 1) 0 (sends_first C)
    sent_there to = enter_sends L m R g lg may C follows to

    state_later : entered_m.states g ≡ state_entered L g m
    state_later = set_at_self g (state_entered L g m) m.states

    completed_low : (h : ℕ) → h < n → (entered_m.states h).completed ≤ (m.states g).sent
    completed_low h lh = elim (cases_eq h g) [
      | inl e ↦ (let level = idle.level in rw (e, state_later) (omega (arith, level)))
      | inr o ↦ rw (set_at_other g (state_entered L g m) m.states h o) ((R.clocks h lh).come g lg)
    ]

    row_sent : (to : ℕ) → (sent_there to).row ≡ (m.states g).sent
    row_sent to =
        let i = sent_there to in
        let run' = unswept_of L entered_m.states right_later.clocks g lg (rw state_later (let e = may.is_swept in omega (arith, e))) in
        let done' : (entered_m.states g).completed ≡ (m.states g).completed = ap (λ (x : ShardState). x.completed) state_later in
        let epoch' : (entered_m.states g).epoch ≡ (m.states g).epoch + 1 = ap (λ (x : ShardState). x.epoch) state_later in
        let round' : (entered_m.states g).round ≡ 0 = ap (λ (x : ShardState). x.round) state_later in
        let e1 = run'.of_epoch in
        let e2 = run'.of_round in
        let i1 = i.of_epoch in
        let i2 = i.of_round in
        let f = follows.epoch in
        let level = idle.level in
        let same = label_tells L entered_m.states i.row (entered_m.states g).completed (omega (arith, e1, i1, epoch', f)) (omega (arith, e2, i2, round')) in
        omega (arith, same, done', level)

    named_there : (a : Address) → Member a named → IsThere entered_m.blocks a
    named_there a k =
        let i = sent_there (shard_of n a) in
        let inside : Member a (sends_first C).raises = subst (λ xs. Member a xs) (first_named n g c) k in
        let count = times_member a (sends_first C).raises inside in
        let same = i.raises a refl in
        let at = row_sent (shard_of n a) in
        let low = completed_low (shard_of n a) (L.within a) in
        raised_there L entered_m right_later g lg i.row a i.sent (omega (arith, low, at)) (omega (arith, count, same))

    new_sent : (to : ℕ) (told : RoundBody) → slice_get (bodies_for n 0 (first_deltas (c.epoch + 1) c)) to ≡ Some told → IsSent L entered_m.states to g (c.epoch + 1) 0 (seen_round 0 told)
    new_sent to told tells =
        let b = body_told n 0 (first_deltas (c.epoch + 1) c) to told tells in
        subst (λ x. IsSent L entered_m.states to g (c.epoch + 1) 0 (seen_round 0 x)) b.1
        (resent L entered_m.states to g (c.epoch + 1) 0 (sends_first C) (seen_round 0 (body_for n 0 (first_deltas (c.epoch + 1) c) to))
        (λ a e. told_whole n some (slice_set cs g d) (length-set cs g d ∙ st.joined.each) own_all entered_m follow_later to b.0 (room_later to b.0) named (λ x k q. named_there x k) a e ∙ first_told n g c a)
        (λ a e. refl)
        refl
        (sent_there to))

    pub first_whole : TellsAll n (first_deltas (c.epoch + 1) c)
    first_whole to lt = part_whole n some (slice_set cs g d) (length-set cs g d ∙ st.joined.each) own_all entered_m follow_later to lt (room_later to lt) named (λ x k q. named_there x k)

    kept_sent : (kept : SentRound) → Member kept d.sent → (to : ℕ) (told : RoundBody) → slice_get kept.bodies to ≡ Some told → IsSent L entered_m.states to g kept.epoch kept.round (seen_round kept.round told)
    kept_sent kept (inl e) to told tells = rw e (new_sent to told (ap (λ (x : SentRound). slice_get x.bodies to) (sym e) ∙ tells))
    kept_sent kept (inr k) to told tells = step.sent to g kept.epoch kept.round (seen_round kept.round told) (st.joined.sent g lg kept (contains_from_member kept c.sent (taken 1 kept c.sent k)) to told tells)

    -- ---- how often an address is named at most

    module _ (few_shards : n ≤ 8) (records : (k : ℕ) → k < n → length (catalogue_at (slice_set cs g d) k).roots ≤ 16777216) where
      named_low : (a : Address) → indegree entered_m a ≤ most
      named_low a =
          let is = named_is L entered_m right_later (all_seen (slice_set cs g d)) follow_later a in
          let low = sum_low n 17825792 (λ k. named_at a (all_seen (slice_set cs g d) k)) (λ k lk. (
          let x = catalogue_at (slice_set cs g d) k in
          let b = blocks_low a (catalogue_at (slice_set cs g d) k).blocks (few_later k lk) in
          let r = roots_low a k (catalogue_at (slice_set cs g d) k).roots in
          let room = room_later k lk in
          let some_records = records k lk in
          omega (arith, b, r, room, some_records)
          )) in
          let whole : named_in L (all_seen (slice_set cs g d)) a ≤ n * 17825792 = low in
          omega (arith, is, whole, few_shards)

      pub entered_goes : GoesOn set some cs m g d
      entered_goes = record {
        later = entered_m;
        standing = record {
          joined = join_on set some cs m st g lg d entered_m made step follows_later own_later (λ kept among to told tells. kept_sent kept (member_from_contains kept d.sent among) to told tells)
              (λ row l. labels row l)
              (more_rows L m entered_m g c.sent new_kept sent_more (λ row l. labels row (omega (arith, l))) new_epoch new_round_is (st.joined.last g lg));
          bounded = bounded_entered L m R st.bounded g may named_low;
          room = room_later;
          few = few_later;
        };
        moves = step.sent;
        sends = inr (new_kept, refl, sent_more);
        states = step.states;
      }
        where
          new_kept : SentRound
          new_kept = record { epoch = c.epoch + 1; round = 0; bodies = bodies_for n 0 (first_deltas (c.epoch + 1) c) }

          sent_more : (entered_m.states g).sent ≡ (m.states g).sent + 1
          sent_more = ap (λ (x : ShardState). x.sent) state_later

          labels : (row : ℕ) → row ≤ (m.states g).sent → label_of L entered_m.states row ≡ label_of L m.states row
          labels row l = labels_stay L m.states R.clocks g lg (first_round ((m.states g).epoch + 1) (blocks_at L g m.blocks) (roots_at g m.roots)) (state_entered L g m) refl refl row l

          new_epoch : (label_of L entered_m.states (m.states g).sent).epoch ≡ c.epoch + 1
          new_epoch = (let i = sent_there 0 in subst (λ j. (label_of L entered_m.states j).epoch ≡ c.epoch + 1) (row_sent 0) i.of_epoch)

          new_round_is : (label_of L entered_m.states (m.states g).sent).round ≡ 0
          new_round_is = (let i = sent_there 0 in subst (λ j. (label_of L entered_m.states j).round ≡ 0) (row_sent 0) i.of_round)
