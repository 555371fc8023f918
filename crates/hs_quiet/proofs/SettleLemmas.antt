-- Along a settle peers that were nudged without progress have nothing new to others; so where nothing is due any more nothing is left.
use Rattle.std.proofs.Common.{◌≡◌, ◌≢◌, ◌∙◌, ◌⊎◌, inl, inr, sym, ap, subst, ℕ, suc, ◌+◌, ◌*◌, ◌<◌, ◌≤◌, ◌==◌, ◌&&◌, ◌||◌, not, nat_le, nat_lt, Bool, true, false, List, [], ◌∷◌, Option, Some, None, refl, arith, tests, length, slice_get, is_none, is_some, eqb-true}
use Rattle.std.proofs.lemmas.Bool.{cases_eq, cases_lt}
use Rattle.std.proofs.lemmas.List.Elements.{All-head}
use Rattle.std.specs.BTreeMap.{is_at}
use Rattle.std.specs.List.{All}
use Rattle.std.specs.Map.{lookup, values_of}
use Rattle.std.specs.Option.{option_and_then, option_map, option_map_or, option_or}
use Rattle.std.specs.Ordering.{nat_cmp}
use Rattle.std.specs.Prelude.{if◌then◌else◌}
use Rattle.hs_awaiting.specs.Words.{change_if}
use Rattle.hs_core_words.specs.Asking.{deliver, no_peer, not_up, nudge_good, unless_refused, with_message}
use Rattle.hs_core_words.specs.Changing.{change_pool, refuse}
use Rattle.hs_core_words.specs.declared.event.Event.{Event}
use Rattle.hs_core_words.specs.declared.event.Event.TheVariants as event
use Rattle.hs_core_words.specs.Entering.{is_enter_due}
use Rattle.hs_core_words.specs.Delivering.{is_new_round}
use Rattle.hs_core_words.specs.Looking.{catalogue_of, first_job, front_of, group_of, home, known_of, lead_of, open_work, rejoin_of, sealed_of, shape_of, status_of}
use Rattle.hs_core_words.specs.State.{Core}
use Rattle.hs_core_words.specs.Step.{keep_entries, refuse_entries, begin_event, do_event, end_event, line_of, run_event, step}
use Rattle.hs_core_copies.proofs.StepsLemmas.{begins, was_going}
use Rattle.hs_core_copies.proofs.DeliverLemmas.{message_has}
use Rattle.hs_core_copies.proofs.LeadLemmas.{lead_is}
use Rattle.hs_quiet.proofs.FineLemmas.{same_group}
use Rattle.hs_core_copies.proofs.SettledRunLemmas.{settled_by}
use Rattle.hs_desk.specs.declared.fault.CoreFault.{CoreFault}
use Rattle.hs_events.specs.declared.due.Due.{Due}
use Rattle.hs_events.specs.declared.due.Due.TheVariants.{Reporting, Handling, Nudging}
use Rattle.hs_events.specs.declared.due.Place.{Place}
use Rattle.hs_events.specs.Course.{steps}
use Rattle.hs_events.specs.Due.{is_walk, Events, Walked, first_place, is_answer, is_it, is_same_due, next_due, next_good, next_nudge, next_nudger, next_turn, place_after, raises_known, walk}
use Rattle.hs_limits.specs.declared.delta.Delta.{Delta}
use Rattle.hs_limits.specs.declared.limits.PeerStatus.TheVariants.{Down, Good}
use Rattle.hs_members.specs.Members.{Members, is_down}
use Rattle.hs_model.specs.declared.reply.Reply.TheVariants as reply
use Rattle.hs_model.specs.Refusals.{first, refused_when}
use Rattle.hs_post.specs.declared.message.Message.{Message}
use Rattle.hs_post.specs.declared.message.Message.TheVariants as message
use Rattle.hs_post.specs.Pool.{Pool, is_empty, message_at, restart_numbers}
use Rattle.hs_replica.specs.Group.{Group, commit_front, copy_of, last_number, lead}
use Rattle.hs_quiet.specs.Keeping.{AreInStep, IsForGood, IsLeadKnown, KeepsUp}
use Rattle.hs_quiet.specs.Settled.{HasRounds, HaveRounds, IsLeft, IsRested, IsToShard}
use Rattle.hs_quiet.proofs.DueLemmas.{next_is, next_none, nobody, nudge_due, pool_empty}
use Rattle.hs_quiet.proofs.LedLemmas.{any_range}
use Rattle.hs_quiet.proofs.LeftLemmas.{work_joins, work_lists}
use Rattle.hs_quiet.proofs.MessageLemmas.{Gone, Raised, message_comes}
use Rattle.hs_quiet.proofs.NudgeLemmas.{nudged}
use Rattle.hs_quiet.proofs.PoolLemmas.{taken_out}
use Rattle.hs_quiet.proofs.RestedLemmas.{lead_level, none_joins, nothing_waits_in, sealed_here}
use Rattle.hs_quiet.proofs.StartLemmas.{good_lead, lead_here, lead_whole, low_home, low_peer, members_all, seated_all}
use Rattle.hs_quiet.proofs.StepLemmas.{IsBegun, is_begun, is_ended, step_shape, step_tuned, step_up}
use Rattle.hs_quiet.proofs.StillLemmas.{same, Busy, IsSpent, IsStill, QuietTo, UnderWay, busy_still, quiet_none, quiet_still}

-- ---- what is known of a core

pub record IsGoing (c : Core) : Type 0 where
  pub all : AreInStep c
  pub up : KeepsUp c
  pub fronts : (g : ℕ) → g < (shape_of c).shards → front_of g c ≡ commit_front (group_of g c)
  pub going : c.ended ≡ None

pub goes_on : (e : Event) (at : ℕ) (c : Core) → IsGoing c → (step e at c).ended ≡ None → IsGoing (step e at c)
goes_on e at c g on =
    let all : AreInStep (step e at c) = step_tuned e at c g.all on in
    record {
      all = all;
      up = step_up e at c g.all g.up on;
      fronts = λ x low.
          let same : shape_of (step e at c) ≡ shape_of c = step_shape e at c on in
          let t = g.all.each x (subst (λ s. x < s.shards) same low) in
          settled_by x e at c t.0 t.1 (g.fronts x (subst (λ s. x < s.shards) same low)) on;
      going = on;
    }

-- the peers that were nudged without progress are quiet, or some peer has a job
abbrev pub Inv : Place → Core → Type 0
Inv place c = place.progress ≡ false → Busy c ⊎ QuietTo place.nudger c

-- ---- how an event begins and ends

pub still_begun : (e : Event) (at : ℕ) (c : Core) → IsStill c (begin_event (line_of e) at c)
still_begun e at c = go ((c.progress.event_line == 0 && not (line_of e == 0)) && is_empty c.pool)
  where
    go : (b : Bool) → IsStill c (record (change_if b (change_pool restart_numbers) c) {
      moment = at;
      progress = record c.progress { event_line = if line_of e == 0 then c.progress.event_line else line_of e };
    })
    go true = record { members = refl; groups = refl; tasks = refl; rejoins = refl; catalogues = refl }
    go false = record { members = refl; groups = refl; tasks = refl; rejoins = refl; catalogues = refl }

still_ended : (c : Core) → IsStill c (end_event c)
still_ended c = go (nat_lt c.limits.ops (length c.journal + length c.entries))
  where
    go : (b : Bool) → IsStill c (if b then refuse_entries c else keep_entries c)
    go true = record { members = refl; groups = refl; tasks = refl; rejoins = refl; catalogues = refl }
    go false = record { members = refl; groups = refl; tasks = refl; rejoins = refl; catalogues = refl }

-- as much stays where only messages might change, and did not
up_still : (a b : Core) → IsStill a b → b.pool.messages ≡ a.pool.messages → KeepsUp a → KeepsUp b
up_still a b x e up = record {
  receivers = subst (λ (m : Members). All (IsForGood m) (values_of b.pool.messages)) (sym x.members) (subst (λ (es : List (ℕ × Message)). All (IsForGood a.members) (values_of es)) (sym e) up.receivers);
  joins = λ p j.
      let k = up.joins p (sym (same a b x (status_of p) refl) ∙ j) in
      record {
        rejoin = k.rejoin;
        at = same a b x (rejoin_of p) refl ∙ k.at;
        less = λ loose. subst (λ n. k.rejoin.len < n) (sym (same a b x (λ (y : Core). last_number (group_of (home p y) y)) refl)) (k.less loose);
      };
  leads = λ g. subst (λ (y : Group). IsLeadKnown y) (sym (same a b x (λ (y : Core). group_of g y) refl)) (up.leads g);
}

-- as many messages may be under way
begun_limit : (e : Event) (at : ℕ) (c : Core) → (begin_event (line_of e) at c).pool.limit ≡ c.pool.limit
begun_limit e at c = go ((c.progress.event_line == 0 && not (line_of e == 0)) && is_empty c.pool)
  where
    go : (b : Bool) → (change_if b (change_pool restart_numbers) c).pool.limit ≡ c.pool.limit
    go true = refl
    go false = refl

-- messages that are under way stay so
way_same : (a b : Core) → b.pool.messages ≡ a.pool.messages → (m : Message) → UnderWay a m → UnderWay b m
way_same a b e m u = record { place = u.place; number = u.number; at = ap (λ (es : List (ℕ × Message)). slice_get es u.place) e ∙ u.at }

both_still : (k : ℕ) (a b : Core) → IsStill a b → b.pool.messages ≡ a.pool.messages → Busy a ⊎ QuietTo k a → Busy b ⊎ QuietTo k b
both_still k a b x e (inl busy) = inl (busy_still a b x busy)
both_still k a b x e (inr quiet) = inr (quiet_still k a b x (λ m u. inr (way_same a b e m u)) quiet)

-- ---- peers that are not good

-- peers that are not good have nothing new
skip : (i k : ℕ) (c : Core) → AreInStep c → i ≤ k → ((q : ℕ) → i ≤ q → q < k → status_of q c ≢ Good) → QuietTo i c → QuietTo k c
skip i k c all le bad quiet = record {
  due = λ p less led. quiet.due p (low p (λ g. led_good p led) less (led_good p led)) led;
  came = λ p place to kept less led small two at. quiet.came p place to kept (low p (λ g. g) less (led_good p led)) led small two at;
  told = λ p less good no. quiet.told p (low p (λ g. g) less good) good no;
  sent = λ p less led. quiet.sent p (low p (λ g. g) less (led_good p led)) led;
}
  where
    led_good : (p : ℕ) → lead_of (home p c) c ≡ Some p → status_of p c ≡ Good
    led_good p e = (lead_is (home p c) c p ((seated_all c all).placed (home p c)).few e).good

    low : (p : ℕ) → (status_of p c ≡ Good → status_of p c ≡ Good) → p < k → status_of p c ≡ Good → p < i
    low p same less good = elim (cases_lt p i) [
      | inl l ↦ l
      | inr h ↦ absurd (bad p h less good)
    ]

-- ---- what is due

module _ (e : Event) (at : ℕ) (c : Core) (g : IsGoing c) (r : HasRounds c) (on : (step e at c).ended ≡ None) where
  begun : IsBegun c (begin_event (line_of e) at c)
  begun = is_begun (line_of e) at c

  begun_all : AreInStep (begin_event (line_of e) at c)
  begun_all = record {
    some = subst (λ (m : Members). 0 < m.shape.shards) (sym begun.members) g.all.some;
    each = λ x low. let t = g.all.each x (subst (λ (m : Members). x < m.shape.shards) begun.members low) in (t.0, begins x (line_of e) at c t.0 t.1);
  }

  begun_up : KeepsUp (begin_event (line_of e) at c)
  begun_up = up_still c (begin_event (line_of e) at c) (still_begun e at c) begun.messages g.up

  begun_fronts : (x : ℕ) → x < (shape_of (begin_event (line_of e) at c)).shards → front_of x (begin_event (line_of e) at c) ≡ commit_front (group_of x (begin_event (line_of e) at c))
  begun_fronts x low =
      let same = same_group x c (begin_event (line_of e) at c) begun.members begun.groups in
      ap (λ (y : Group). y.front) same ∙ g.fronts x (subst (λ (m : Members). x < m.shape.shards) begun.members low) ∙ ap commit_front (sym same)

  is : step e at c ≡ run_event e at c
  is = ap (λ o. change_if (is_none o) (run_event e at) c) g.going

  -- ---- a message

  delivered : (k number l : ℕ) → e ≡ event.Deliver l number → raises_known c (step e at c) ≡ false → Busy c ⊎ QuietTo k c → Busy (step e at c) ⊎ QuietTo k (step e at c)
  delivered k number l is_deliver calm h =
      subst (λ (y : Core). Busy y ⊎ QuietTo k y) (sym is)
      (both_still k (do_event e (begin_event (line_of e) at c)) (end_event (do_event e (begin_event (line_of e) at c))) (still_ended (do_event e (begin_event (line_of e) at c))) (is_ended (do_event e (begin_event (line_of e) at c))).messages
      (subst (λ (x : Event). Busy (do_event x (begin_event (line_of e) at c)) ⊎ QuietTo k (do_event x (begin_event (line_of e) at c))) (sym is_deliver) did))
    where
      first : Busy (begin_event (line_of e) at c) ⊎ QuietTo k (begin_event (line_of e) at c)
      first = both_still k c (begin_event (line_of e) at c) (still_begun e at c) begun.messages h

      low_rounds : (n from to epoch round total : ℕ) (deltas : List Delta) → message_at n (begin_event (line_of e) at c).pool ≡ Some (message.Round from to epoch round total deltas) → to < (shape_of (begin_event (line_of e) at c)).shards
      low_rounds n from to epoch round total deltas there =
          subst (λ (m : Members). to < m.shape.shards) (sym begun.members)
          (message_has (IsToShard c.members.shape) n c.pool (message.Round from to epoch round total deltas) (sym (ap (λ (es : List (ℕ × Message)). lookup (is_at (nat_cmp n)) es) begun.messages) ∙ there) r.low)

      -- more is known of nobody
      not_raised : (b : Core) → Raised (begin_event (line_of e) at c) begun_all begun_up begun_fronts low_rounds b → ((p : ℕ) → known_of p (step e at c) ≡ known_of p b) → ⊥
      not_raised b raised known_same =
          let test : ℕ → Bool = λ p. nat_lt (known_of p c) (known_of p (step e at c)) in
          let more : known_of raised.peer c < known_of raised.peer (step e at c) =
          (let x = raised.more in let y = known_same raised.peer in let z = begun_known raised.peer in omega (arith, x, y, z)) in
          let passes : nat_lt (known_of raised.peer c) (known_of raised.peer (step e at c)) ≡ true = grind (arith, tests, more) in
          let low : raised.peer < (shape_of c).shards * (shape_of c).copies = subst (λ (m : Members). raised.peer < m.shape.shards * m.shape.copies) begun.members raised.low in
          let wrong : true ≡ false = sym (any_range (λ p. nat_lt (known_of p c) (known_of p (step e at c))) 0 ((shape_of c).shards * (shape_of c).copies) raised.peer (omega arith) (omega (arith, low)) passes) ∙ calm in
          cc wrong
        where
          begun_known : (p : ℕ) → known_of p (begin_event (line_of e) at c) ≡ known_of p c
          begun_known p = same c (begin_event (line_of e) at c) (still_begun e at c) (known_of p) refl

      came : (m : Message) → message_at number (begin_event (line_of e) at c).pool ≡ Some m → (b : Core) → b ≡ deliver number m (begin_event (line_of e) at c) → ((p : ℕ) → known_of p (step e at c) ≡ known_of p b) → Busy b ⊎ QuietTo k b
      came m there b is_b same_known = elim (message_comes (begin_event (line_of e) at c) begun_all begun_up begun_fronts low_rounds number m there) [
        | inl busy ↦ inl (subst (λ (y : Core). Busy y) (sym is_b) busy)
        | inr (inl raised) ↦ absurd (not_raised (deliver number m (begin_event (line_of e) at c)) raised (λ p. same_known p ∙ ap (λ (y : Core). known_of p y) is_b))
        | inr (inr gone) ↦
            subst (λ (y : Core). Busy y ⊎ QuietTo k y) (sym is_b) (elim first [
              | inl busy ↦ inl (busy_still (begin_event (line_of e) at c) (deliver number m (begin_event (line_of e) at c)) gone.still busy)
              | inr quiet ↦ inr (quiet_still k (begin_event (line_of e) at c) (deliver number m (begin_event (line_of e) at c)) gone.still (λ w u. way gone w u) quiet)
            ])
      ]
        where
          way : (gone : Gone (begin_event (line_of e) at c) begun_all begun_up begun_fronts low_rounds m number (deliver number m (begin_event (line_of e) at c))) (w : Message) → UnderWay (begin_event (line_of e) at c) w
              → IsSpent (deliver number m (begin_event (line_of e) at c)) w ⊎ UnderWay (deliver number m (begin_event (line_of e) at c)) w
          way gone w u = elim (taken_out number m (begin_event (line_of e) at c).pool.messages u.place u.number w there u.at) [
            | inl same_m ↦ inl (subst (λ (y : Message). IsSpent (deliver number m (begin_event (line_of e) at c)) y) same_m gone.spent)
            | inr j ↦ inr (record { place = j.0; number = u.number; at = ap (λ (q : Pool). slice_get q.messages j.0) gone.pool ∙ j.1 })
          ]

      did : Busy (do_event (event.Deliver l number) (begin_event (line_of e) at c)) ⊎ QuietTo k (do_event (event.Deliver l number) (begin_event (line_of e) at c))
      did = by_message (message_at number (begin_event (line_of e) at c).pool) refl
        where
          known_end : (b : Core) → do_event e (begin_event (line_of e) at c) ≡ b → (p : ℕ) → known_of p (step e at c) ≡ known_of p b
          known_end b is_b p = ap (λ (y : Core). known_of p y) is ∙ same (do_event e (begin_event (line_of e) at c)) (end_event (do_event e (begin_event (line_of e) at c))) (still_ended (do_event e (begin_event (line_of e) at c))) (known_of p) refl ∙ ap (λ (y : Core). known_of p y) is_b

          by_message : (o : Option Message) → message_at number (begin_event (line_of e) at c).pool ≡ o → Busy (with_message l number (deliver number) (begin_event (line_of e) at c)) ⊎ QuietTo k (with_message l number (deliver number) (begin_event (line_of e) at c))
          by_message None there =
              let with_none : with_message l number (deliver number) (begin_event (line_of e) at c) ≡ refuse l (reply.NoMessage number) (begin_event (line_of e) at c) = rw there refl in
              subst (λ (y : Core). Busy y ⊎ QuietTo k y) (sym with_none) (both_still k (begin_event (line_of e) at c) (refuse l (reply.NoMessage number) (begin_event (line_of e) at c)) (record { members = refl; groups = refl; tasks = refl; rejoins = refl; catalogues = refl }) refl first)
          by_message (Some m) there =
              let with_it : with_message l number (deliver number) (begin_event (line_of e) at c) ≡ deliver number m (begin_event (line_of e) at c) = rw there refl in
              came m there (with_message l number (deliver number) (begin_event (line_of e) at c)) with_it (known_end (with_message l number (deliver number) (begin_event (line_of e) at c)) (ap (λ (x : Event). do_event x (begin_event (line_of e) at c)) is_deliver))

  -- ---- a nudge

  nudges : (p l : ℕ) → e ≡ event.Nudge l p → status_of p c ≡ Good → ((q : ℕ) → first_job q c ≡ None) → c.pool.messages ≡ [] → QuietTo p c → Busy (step e at c) ⊎ QuietTo (suc p) (step e at c)
  nudges p l is_nudge good idle empty quiet =
      subst (λ (y : Core). Busy y ⊎ QuietTo (suc p) y) (sym is)
      (both_still (suc p) (do_event e (begin_event (line_of e) at c)) (end_event (do_event e (begin_event (line_of e) at c))) (still_ended (do_event e (begin_event (line_of e) at c))) (is_ended (do_event e (begin_event (line_of e) at c))).messages
      (subst (λ (x : Event). Busy (do_event x (begin_event (line_of e) at c)) ⊎ QuietTo (suc p) (do_event x (begin_event (line_of e) at c))) (sym is_nudge) did))
    where
      x : IsStill c (begin_event (line_of e) at c)
      x = still_begun e at c

      quiet_first : QuietTo p (begin_event (line_of e) at c)
      quiet_first = quiet_still p c (begin_event (line_of e) at c) x (λ m u. inr (way_same c (begin_event (line_of e) at c) begun.messages m u)) quiet

      good_now : status_of p (begin_event (line_of e) at c) ≡ Good
      good_now = same c (begin_event (line_of e) at c) x (status_of p) refl ∙ good

      allowed : first (no_peer p (begin_event (line_of e) at c) ∷ not_up p (begin_event (line_of e) at c) ∷ []) ≡ None
      allowed =
          let low = low_peer (begin_event (line_of e) at c) begun_all p (λ d. let wrong : Good ≡ Down = sym good_now ∙ d in cc wrong) in
          let long = (members_all (begin_event (line_of e) at c) begun_all).statuses in
          let there : nat_le (length (begin_event (line_of e) at c).members.statuses) p ≡ false = (let n : p < length (begin_event (line_of e) at c).members.statuses = omega (arith, low, long) in grind (arith, tests, n)) in
          ap (λ b. first (refused_when b (reply.NoPeer p) ∷ not_up p (begin_event (line_of e) at c) ∷ [])) there ∙ ap (λ k. first (None ∷ refused_when (is_down k) (reply.NotUp p) ∷ [])) good_now

      did : Busy (do_event (event.Nudge l p) (begin_event (line_of e) at c)) ⊎ QuietTo (suc p) (do_event (event.Nudge l p) (begin_event (line_of e) at c))
      did =
          let done : unless_refused l (no_peer p (begin_event (line_of e) at c) ∷ not_up p (begin_event (line_of e) at c) ∷ []) (nudge_good p) (begin_event (line_of e) at c) ≡ nudge_good p (begin_event (line_of e) at c) = rw allowed refl in
          let low_x : home p c < (shape_of c).shards = low_home c g.all p (low_peer c g.all p (λ d. let wrong : Good ≡ Down = sym good ∙ d in cc wrong)) in
          subst (λ (y : Core). Busy y ⊎ QuietTo (suc p) y) (sym done)
          (nudged (begin_event (line_of e) at c) begun_all (λ q. same c (begin_event (line_of e) at c) x (first_job q) refl ∙ idle q) (begun.messages ∙ empty)
          (begun_room (r.room)) p good_now quiet_first
          (same c (begin_event (line_of e) at c) x (λ (y : Core). (catalogue_of (home p y) y).shape.shards) refl ∙ r.shape (home p c) low_x ∙ ap (λ (m : Members). m.shape.shards) (sym begun.members))
          (λ place kept there. r.bodies (home p c) place kept low_x (sym (same c (begin_event (line_of e) at c) x (λ (y : Core). slice_get (catalogue_of (home p y) y).run.sent place) refl) ∙ there) ∙ ap (λ (m : Members). m.shape.shards) (sym begun.members)))
        where
          begun_room : 2 * (shape_of c).shards < c.pool.limit → 2 * (shape_of (begin_event (line_of e) at c)).shards < (begin_event (line_of e) at c).pool.limit
          begun_room h = (let a = ap (λ (m : Members). m.shape.shards) begun.members in let b = begun_limit e at c in omega (arith, h, a, b))

-- ---- what was due, and what it leaves

no_event : (d : Due) → option_map_or (is_same_due d) None false ≡ true → ⊥
no_event d h = cc h

-- a message that was due came
handled : (line : ℕ) (c : Core) (p n : ℕ) (e : Event) → is_it line c (Handling p n) e ≡ true → (l : ℕ) × (e ≡ event.Deliver l n)
handled line c p n (event.Line l o) h = absurd (cc h)
handled line c p n (event.Report peer done) h = go (is_answer c peer done) h
  where
    go : (b : Bool) → option_map_or (is_same_due (Handling p n)) (if b then Some (Reporting peer) else None) false ≡ true → (l : ℕ) × (event.Report peer done ≡ event.Deliver l n)
    go true k = absurd (cc k)
    go false k = absurd (cc k)
handled line c p n (event.Turn l peer) h = absurd (cc h)
handled line c p n (event.Deliver l m) h = go (l == line) h
  where
    go : (b : Bool) → option_map_or (is_same_due (Handling p n)) (if b then Some (Handling 0 m) else None) false ≡ true → (k : ℕ) × (event.Deliver l m ≡ event.Deliver k n)
    go true k = (l, ap (λ x. event.Deliver l x) (sym (eqb-true n m k)))
    go false k = absurd (cc k)
handled line c p n (event.Lose l m) h = absurd (cc h)
handled line c p n (event.Repeat l m) h = absurd (cc h)
handled line c p n (event.Nudge l peer) h = go (l == line) h
  where
    go : (b : Bool) → option_map_or (is_same_due (Handling p n)) (if b then Some (Nudging peer) else None) false ≡ true → (k : ℕ) × (event.Nudge l peer ≡ event.Deliver k n)
    go true k = absurd (cc k)
    go false k = absurd (cc k)
handled line c p n (event.Fail l peer) h = absurd (cc h)
handled line c p n (event.Start l peer) h = absurd (cc h)

-- a nudge that was due
was_nudged : (line : ℕ) (c : Core) (p : ℕ) (e : Event) → is_it line c (Nudging p) e ≡ true → (l : ℕ) × (e ≡ event.Nudge l p)
was_nudged line c p (event.Line l o) h = absurd (cc h)
was_nudged line c p (event.Report peer done) h = go (is_answer c peer done) h
  where
    go : (b : Bool) → option_map_or (is_same_due (Nudging p)) (if b then Some (Reporting peer) else None) false ≡ true → (l : ℕ) × (event.Report peer done ≡ event.Nudge l p)
    go true k = absurd (cc k)
    go false k = absurd (cc k)
was_nudged line c p (event.Turn l peer) h = absurd (cc h)
was_nudged line c p (event.Deliver l m) h = go (l == line) h
  where
    go : (b : Bool) → option_map_or (is_same_due (Nudging p)) (if b then Some (Handling 0 m) else None) false ≡ true → (k : ℕ) × (event.Deliver l m ≡ event.Nudge k p)
    go true k = absurd (cc k)
    go false k = absurd (cc k)
was_nudged line c p (event.Lose l m) h = absurd (cc h)
was_nudged line c p (event.Repeat l m) h = absurd (cc h)
was_nudged line c p (event.Nudge l peer) h = go (l == line) h
  where
    go : (b : Bool) → option_map_or (is_same_due (Nudging p)) (if b then Some (Nudging peer) else None) false ≡ true → (k : ℕ) × (event.Nudge l peer ≡ event.Nudge k p)
    go true k = (l, ap (λ x. event.Nudge l x) (sym (eqb-true p peer k)))
    go false k = absurd (cc k)
was_nudged line c p (event.Fail l peer) h = absurd (cc h)
was_nudged line c p (event.Start l peer) h = absurd (cc h)

or_none : (a b : Bool) → (a || b) ≡ false → (a ≡ false) × (b ≡ false)
or_none true b e = let wrong : true ≡ false = e in absurd (cc wrong)
or_none false b e = (refl, e)

-- a peer that is nudged: those before it are quiet, where the sequence that it goes on with, or begins, made no progress
module _ (c : Core) (all : AreInStep c) (place : Place) (p : ℕ) (idle : (q : ℕ) → first_job q c ≡ None) (inv : Inv place c)
    (calm : (nat_le place.nudger p && (not (place.nudger == 0) && place.progress)) ≡ false) where
  quiet_place : place.nudger ≤ p → QuietTo place.nudger c
  quiet_place le = by_progress place.progress refl
    where
      by_busy : Busy c ⊎ QuietTo place.nudger c → QuietTo place.nudger c
      by_busy (inl b) = let wrong : Some b.job ≡ None = sym b.is ∙ idle b.peer in absurd (cc wrong)
      by_busy (inr quiet) = quiet

      by_nudger : (b : Bool) → (place.nudger == 0) ≡ b → place.progress ≡ true → QuietTo place.nudger c
      by_nudger true e t = subst (λ k. QuietTo k c) (sym (eqb-true place.nudger 0 e)) (quiet_none c)
      by_nudger false e t =
          let there : nat_le place.nudger p ≡ true = grind (arith, tests, le) in
          let wrong : true ≡ false =
          sym (ap (λ b. b && (not (place.nudger == 0) && place.progress)) there ∙ ap (λ b. true && (not b && place.progress)) e ∙ t) ∙ calm in
          absurd (cc wrong)

      by_progress : (b : Bool) → place.progress ≡ b → QuietTo place.nudger c
      by_progress false t = by_busy (inv t)
      by_progress true t = by_nudger (place.nudger == 0) refl t

  quiet_before : next_nudger place c ≡ Some p → QuietTo p c
  quiet_before is = by_next (next_good place.nudger c) refl
    where
      from_none : (b : Bool) → (if b then next_good 0 c else None) ≡ Some p → QuietTo p c
      from_none true e = let n = next_is c 0 p e in skip 0 p c all n.from n.before (quiet_none c)
      from_none false e = absurd (cc e)

      by_next : (o : Option ℕ) → next_good place.nudger c ≡ o → QuietTo p c
      by_next None e = from_none place.progress (sym (ap (λ o. option_or o (if place.progress then next_good 0 c else None)) e) ∙ is)
      by_next (Some q) e =
          let both : Some q ≡ Some p = sym (ap (λ o. option_or o (if place.progress then next_good 0 c else None)) e) ∙ is in
          let n = next_is c place.nudger p (e ∙ both) in
          skip place.nudger p c all n.from n.before (quiet_place n.from)

-- behind what was due
first_low : (c : Core) → HasRounds c → (number from to epoch round total : ℕ) (deltas : List Delta) (rest : List (ℕ × Message)) → c.pool.messages ≡ (number, message.Round from to epoch round total deltas) ∷ rest → to < (shape_of c).shards
first_low c r number from to epoch round total deltas rest e =
    All-head (IsToShard c.members.shape) (message.Round from to epoch round total deltas) (values_of rest) (subst (λ (es : List (ℕ × Message)). All (IsToShard c.members.shape) (values_of es)) e r.low)

moved : (line : ℕ) (place : Place) (e : Event) (at : ℕ) (c : Core) → IsGoing c → HasRounds c → (step e at c).ended ≡ None → (d : Due) → next_due place c ≡ Some d → is_it line c d e ≡ true
    → Inv place c → Inv (place_after d (raises_known c (step e at c)) place) (step e at c)
moved line place e at c g r on (Reporting p) due it inv = λ no. absurd (let wrong : true ≡ false = no in cc wrong)
moved line place e at c g r on (Handling p n) due it inv = λ no.
    let k = handled line c p n e it in
    let parts = or_none place.progress (raises_known c (step e at c)) no in
    delivered e at c g r on place.nudger n k.0 k.1 parts.1 (inv parts.0)
moved line place e at c g r on (Nudging p) due it inv = λ no.
    let k = was_nudged line c p e it in
    let d = nudge_due c place p due in
    let parts = or_none (nat_le place.nudger p && (not (place.nudger == 0) && place.progress)) (raises_known c (step e at c)) no in
    let idle = nobody c place g.going d.0 g.all in
    let empty = pool_empty c place g.going d.0 g.all g.up (first_low c r) in
    let quiet = quiet_before c g.all place p idle inv parts.0 d.1 in
    subst (λ i. Busy (step e at c) ⊎ QuietTo i (step e at c)) (let z : suc p ≡ p + 1 = omega arith in z) (nudges e at c g r on p k.0 k.1 (good_next d.1) idle empty quiet)
  where
    good_next : next_nudger place c ≡ Some p → status_of p c ≡ Good
    good_next is = by_next (next_good place.nudger c) refl
      where
        from_none : (b : Bool) → (if b then next_good 0 c else None) ≡ Some p → status_of p c ≡ Good
        from_none true e = (next_is c 0 p e).good
        from_none false e = absurd (cc e)

        by_next : (o : Option ℕ) → next_good place.nudger c ≡ o → status_of p c ≡ Good
        by_next None e = from_none place.progress (sym (ap (λ o. option_or o (if place.progress then next_good 0 c else None)) e) ∙ is)
        by_next (Some q) e = (next_is c place.nudger p (e ∙ (sym (ap (λ o. option_or o (if place.progress then next_good 0 c else None)) e) ∙ is))).good

-- ---- one after another

record IsMoved (line : ℕ) (at : Walked) (e : Event × ℕ) (es : Events) (end : Walked) : Type 0 where
  pub due : Due
  pub is : next_due at.place at.core ≡ Some due
  pub it : is_it line at.core due e.0 ≡ true
  pub rest : walk next_due line (record { place = place_after due (raises_known at.core (step e.0 e.1 at.core)) at.place; core = step e.0 e.1 at.core }) es ≡ Some end

walk_parts : (line : ℕ) (at : Walked) (e : Event × ℕ) (es : Events) (end : Walked) → walk next_due line at (e ∷ es) ≡ Some end → IsMoved line at e es end
walk_parts line at e es end h = by_due (next_due at.place at.core) refl h
  where
    behind : Due → Walked
    behind d = record { place = place_after d (raises_known at.core (step e.0 e.1 at.core)) at.place; core = step e.0 e.1 at.core }

    by_it : (d : Due) (b : Bool) → next_due at.place at.core ≡ Some d → is_it line at.core d e.0 ≡ b
        → option_and_then (λ next. walk next_due line next es) (if b then Some (behind d) else None) ≡ Some end → IsMoved line at e es end
    by_it d true is it k = record { due = d; is = is; it = it; rest = k }
    by_it d false is it k = absurd (cc k)

    by_due : (o : Option Due) → next_due at.place at.core ≡ o
        → option_and_then (λ next. walk next_due line next es) (option_and_then (λ d. if is_it line at.core d e.0 then Some (behind d) else None) o) ≡ Some end → IsMoved line at e es end
    by_due None is k = absurd (cc k)
    by_due (Some d) is k = by_it d (is_it line at.core d e.0) is refl k

pub walk_going : (line : ℕ) (at : Walked) (es : Events) (end : Walked) → walk next_due line at es ≡ Some end → end.core.ended ≡ None → at.core.ended ≡ None
walk_going line at [] end h on = let same : at ≡ end = cc h in ap (λ (w : Walked). w.core.ended) same ∙ on
walk_going line at (e ∷ es) end h on =
    let k = walk_parts line at e es end h in
    was_going e.0 e.1 at.core (walk_going line (record { place = place_after k.due (raises_known at.core (step e.0 e.1 at.core)) at.place; core = step e.0 e.1 at.core }) es end k.rest on)

pub settle_walk : (line : ℕ) (at : Walked) (es : Events) (end : Walked) → walk next_due line at es ≡ Some end → end.core.ended ≡ None → HaveRounds at.core es → IsGoing at.core → Inv at.place at.core
    → (IsGoing end.core × Inv end.place end.core) × HasRounds end.core
settle_walk line at [] end h on r g inv =
    let same : at ≡ end = cc h in
    ((subst (λ (w : Walked). IsGoing w.core) same g, subst (λ (w : Walked). Inv w.place w.core) same inv), subst (λ (w : Walked). HasRounds w.core) same r)
settle_walk line at (e ∷ es) end h on r g inv =
    let k = walk_parts line at e es end h in
    let next : Walked = record { place = place_after k.due (raises_known at.core (step e.0 e.1 at.core)) at.place; core = step e.0 e.1 at.core } in
    let still : (step e.0 e.1 at.core).ended ≡ None = walk_going line next es end k.rest on in
    settle_walk line next es end k.rest on r.1 (goes_on e.0 e.1 at.core g still) (moved line at.place e.0 e.1 at.core g r.0 still k.due k.is k.it inv)

-- ---- nothing is due any more

module _ (place : Place) (c : Core) (g : IsGoing c) (r : HasRounds c) (inv : Inv place c) (none : next_due place c ≡ None) where
  no_turn : next_turn place c ≡ None
  no_turn = go (next_turn place c) refl
    where
      go : (o : Option Due) → next_turn place c ≡ o → next_turn place c ≡ None
      go None e = e
      go (Some d) e = let wrong : Some d ≡ None = sym (ap (λ o. option_or o (next_nudge place c)) e) ∙ none in absurd (cc wrong)

  idle : (q : ℕ) → first_job q c ≡ None
  idle = nobody c place g.going no_turn g.all

  empty : c.pool.messages ≡ []
  empty = pool_empty c place g.going no_turn g.all g.up (first_low c r)

  no_way : (m : Message) → UnderWay c m → ⊥
  no_way m u = let wrong : None ≡ Some (u.number, m) = sym (ap (λ (es : List (ℕ × Message)). slice_get es u.place) empty) ∙ u.at in cc wrong

  low_good : (p : ℕ) → status_of p c ≡ Good → p < (shape_of c).shards * (shape_of c).copies
  low_good p good = low_peer c g.all p (λ d. let wrong : Good ≡ Down = sym good ∙ d in cc wrong)

  -- all good peers were nudged
  module _ (work : next_nudger place c ≡ None) where
    none_next : (next_good place.nudger c ≡ None) × (place.progress ≡ false)
    none_next = by_next (next_good place.nudger c) refl
      where
        -- there is a good peer
        some_good : next_good 0 c ≡ None → ⊥
        some_good e =
            let t = g.all.each 0 g.all.some in
            let l = lead_here 0 c t.0 t.1 in
            let led = good_lead 0 c t.0 t.1 l.0 l.1 in
            next_none c 0 e l.0 (omega arith) (low_good l.0 led.good) led.good

        by_progress : (b : Bool) → place.progress ≡ b → (if place.progress then next_good 0 c else None) ≡ None → place.progress ≡ false
        by_progress false t e = t
        by_progress true t e = absurd (some_good (sym (ap (λ b. if b then next_good 0 c else None) t) ∙ e))

        by_next : (o : Option ℕ) → next_good place.nudger c ≡ o → (next_good place.nudger c ≡ None) × (place.progress ≡ false)
        by_next (Some q) e = let wrong : Some q ≡ None = sym (ap (λ o. option_or o (if place.progress then next_good 0 c else None)) e) ∙ work in absurd (cc wrong)
        by_next None e = (e, by_progress place.progress refl (sym (ap (λ o. option_or o (if place.progress then next_good 0 c else None)) e) ∙ work))

    quiet : QuietTo place.nudger c
    quiet = by_busy (inv none_next.1)
      where
        by_busy : Busy c ⊎ QuietTo place.nudger c → QuietTo place.nudger c
        by_busy (inl b) = let wrong : Some b.job ≡ None = sym b.is ∙ idle b.peer in absurd (cc wrong)
        by_busy (inr q) = q

    -- each was
    before : (p : ℕ) → status_of p c ≡ Good → p < place.nudger
    before p good = elim (cases_lt p place.nudger) [
      | inl low ↦ low
      | inr high ↦ absurd (next_none c place.nudger none_next.0 p high (low_good p good) good)
    ]

    -- what each good peer has sealed is known
    all_known : (x : ℕ) → x < (shape_of c).shards → (p : ℕ) → home p c ≡ x → status_of p c ≡ Good → (lead (group_of x c) ≡ Some p) ⊎ (known_of p c ≡ sealed_of p c)
    all_known x low p own good =
        let t = g.all.each x low in
        let l = lead_here x c t.0 t.1 in
        go l.0 l.1 l.2 (cases_eq p l.0)
      where
        go : (l : ℕ) → lead (group_of x c) ≡ Some l → lead_of x c ≡ Some l → (p ≡ l) ⊎ (p ≢ l) → (lead (group_of x c) ≡ Some p) ⊎ (known_of p c ≡ sealed_of p c)
        go l e led (inl same) = inl (e ∙ ap (λ k. Some k) (sym same))
        go l e led (inr apart) = elim (quiet.told p (before p good) good (λ is. apart (let both : Some p ≡ Some l = sym is ∙ ap (λ k. lead_of k c) own ∙ led in cc both))) [
          | inl known ↦ inr known
          | inr comes ↦ absurd (no_way (message.Have (home p c) p comes.to (group_of (home p c) c).view (sealed_of p c)) comes.under)
        ]

    -- and that is all
    level : (x : ℕ) → x < (shape_of c).shards → (p : ℕ) → home p c ≡ x → status_of p c ≡ Good → last_number (group_of x c) ≤ (copy_of (group_of x c) p).known
    level x low p own good =
        let t = g.all.each x low in
        let l = lead_here x c t.0 t.1 in
        let led = good_lead x c t.0 t.1 l.0 l.1 in
        go l.0 l.1 l.2 led.own led.good (cases_eq p l.0)
      where
        known_here : known_of p c ≡ (copy_of (group_of x c) p).known
        known_here = ap (λ k. (copy_of (group_of k c) p).known) own

        go : (l : ℕ) → lead (group_of x c) ≡ Some l → lead_of x c ≡ Some l → home l c ≡ x → status_of l c ≡ Good → (p ≡ l) ⊎ (p ≢ l) → last_number (group_of x c) ≤ (copy_of (group_of x c) p).known
        go l e led at lead_good (inl same) = (let n = lead_level c g.all g.up idle x low p (e ∙ ap (λ k. Some k) (sym same)) in omega (arith, n))
        go l e led at lead_good (inr apart) = elim (quiet.sent l (before l lead_good) (ap (λ k. lead_of k c) at ∙ led)) [
          | inl level ↦ (let n = level p (own ∙ sym at) good apart in let m = ap (λ k. last_number (group_of k c)) at in omega (arith, n, m, known_here))
          | inr (inl h) ↦ absurd (elim (all_known x low h.peer (h.own ∙ at) h.good) [
            | inl is ↦
                (let n = lead_level c g.all g.up idle x low h.peer is in
                let s = sealed_here x c (g.all.each x low).0 (g.all.each x low).1 h.peer (h.own ∙ at) h.good (idle h.peer) in
                let w = lead_whole x c (g.all.each x low).0 (g.all.each x low).1 h.peer is in
                let k1 = ap (λ k. (copy_of (group_of k c) h.peer).known) (h.own ∙ at) in
                let k2 = ap (λ k. (copy_of (group_of k c) h.peer).sealed) (h.own ∙ at) in
                let less = h.less in
                omega (arith, n, s, w, k1, k2, less))
            | inr known ↦ (let less = h.less in omega (arith, known, less))
          ])
          | inr (inr comes) ↦ absurd (no_way (message.Copy (home l c) comes.to comes.view comes.number comes.entry) comes.under)
        ]

    all_rested : IsRested c
    all_rested = record {
      lists = λ x low. nothing_waits_in c g.all g.up idle x low (g.fronts x low) (level x low);
      joins = none_joins c g.all g.up idle;
      quiet = record {
        due = λ x low.
            let t = g.all.each x low in
            let l = lead_here x c t.0 t.1 in
            let led = good_lead x c t.0 t.1 l.0 l.1 in
            subst (λ k. is_enter_due k c ≡ false) led.own (quiet.due l.0 (before l.0 led.good) (ap (λ k. lead_of k c) led.own ∙ l.2));
        came = λ x place_at to kept low to_low two at.
            let t = g.all.each x low in
            let l = lead_here x c t.0 t.1 in
            let led = good_lead x c t.0 t.1 l.0 l.1 in
            elim (quiet.came l.0 place_at to kept (before l.0 led.good) (ap (λ k. lead_of k c) led.own ∙ l.2) to_low two (ap (λ k. slice_get (catalogue_of k c).run.sent place_at) led.own ∙ at)) [
              | inl old ↦ ap (λ k. is_new_round to k kept.epoch kept.round c) (sym led.own) ∙ old
              | inr comes ↦ absurd (no_way (message.Round (home l.0 c) to kept.epoch kept.round comes.total comes.deltas) comes.under)
            ];
      };
    }

  -- there is open work, and all is at rest, or there is none
  done : (open_work c ≡ false) ⊎ IsRested c
  done = by_work (open_work c) refl
    where
      by_none : (o : Option ℕ) → next_nudger place c ≡ o → option_map Nudging o ≡ None → next_nudger place c ≡ None
      by_none None e k = e
      by_none (Some q) e k = absurd (cc k)

      by_work : (b : Bool) → open_work c ≡ b → (open_work c ≡ false) ⊎ IsRested c
      by_work false e = inl e
      by_work true e =
          let nudge : next_nudge place c ≡ None = sym (ap (λ o. option_or o (next_nudge place c)) no_turn) ∙ none in
          let here : option_map Nudging (next_nudger place c) ≡ None =
          sym (ap (λ (o : Option CoreFault). if is_some o || not (open_work c) then None else option_map Nudging (next_nudger place c)) g.going ∙ ap (λ b. if false || not b then None else option_map Nudging (next_nudger place c)) e) ∙ nudge in
          inr (all_rested (by_none (next_nudger place c) refl here))

  pub left : IsLeft c
  left = elim done [
    | inl shut ↦ record { jobs = idle; messages = empty; lists = work_lists c g.all shut; joins = work_joins c g.all shut; quiet = inl shut }
    | inr rest ↦ record { jobs = idle; messages = empty; lists = rest.lists; joins = rest.joins; quiet = inr rest.quiet }
  ]

-- ---- a whole settle

pub settles : (line : ℕ) (c : Core) (es : Events) (end : Walked) → walk next_due line (record { place = first_place; core = c }) es ≡ Some end → next_due end.place end.core ≡ None → end.core.ended ≡ None
    → HaveRounds c es → AreInStep c → KeepsUp c → ((x : ℕ) → x < (shape_of c).shards → front_of x c ≡ commit_front (group_of x c)) → IsLeft end.core
settles line c es end h none on r all up fronts =
    let at : Walked = record { place = first_place; core = c } in
    let k = settle_walk line at es end h on r (record { all = all; up = up; fronts = fronts; going = walk_going line at es end h on }) (λ no. inr (quiet_none c)) in
    left end.place end.core k.0.0 k.1 k.0.1 none

-- the core behind the events that were due
walk_core : (line : ℕ) (at : Walked) (es : Events) (end : Walked) → walk next_due line at es ≡ Some end → steps at.core es ≡ end.core
walk_core line at [] end h = let same : at ≡ end = cc h in ap (λ (w : Walked). w.core) same
walk_core line at (e ∷ es) end h =
    let k = walk_parts line at e es end h in
    walk_core line (record { place = place_after k.due (raises_known at.core (step e.0 e.1 at.core)) at.place; core = step e.0 e.1 at.core }) es end k.rest

none_is : (o : Option Due) → is_none o ≡ true → o ≡ None
none_is None e = refl
none_is (Some d) e = let wrong : false ≡ true = e in absurd (cc wrong)

pub settle_left : (line : ℕ) (c : Core) (es : Events) → is_walk next_due true line c es ≡ true → (steps c es).ended ≡ None → HaveRounds c es → AreInStep c → KeepsUp c
    → ((x : ℕ) → x < (shape_of c).shards → front_of x c ≡ commit_front (group_of x c)) → IsLeft (steps c es)
settle_left line c es h on r all up fronts = by_end (walk next_due line (record { place = first_place; core = c }) es) refl h
  where
    by_end : (o : Option Walked) → walk next_due line (record { place = first_place; core = c }) es ≡ o → option_map_or (λ (w : Walked). not true || is_none (next_due w.place w.core)) o false ≡ true → IsLeft (steps c es)
    by_end None e k = absurd (cc k)
    by_end (Some end) e k =
        let same : steps c es ≡ end.core = walk_core line (record { place = first_place; core = c }) es end e in
        subst (λ (y : Core). IsLeft y) (sym same) (settles line c es end e (none_is (next_due end.place end.core) k) (ap (λ (y : Core). y.ended) (sym same) ∙ on) r all up fronts)
