-- Each event changes what a peer is known to have sealed only by its cause.
use Rattle.std.proofs.Common.{◌≡◌, ◌≢◌, ◌⊎◌, ◌∙◌, ap, sym, subst, refl, inl, inr, arith, ℕ, ◌+◌, ◌-◌, ◌<◌, ◌≤◌, ◌==◌, ◌&&◌, not, nat_le, nat_lt, max, Bool, true, false, List, [], ◌∷◌, ◌++◌, Option, Some, None, is_none, is_some, drop, length}
use Rattle.std.proofs.lemmas.Bool.{cases_eq, cases_lt}
use Rattle.std.proofs.lemmas.List.{get_or-set_other, get_or-set_same, set_past}
use Rattle.std.specs.List.{list_all}
use Rattle.std.specs.Option.{option_map_or}
use Rattle.std.specs.Prelude.{if◌then◌else◌, slice_index_or, slice_set}
use Rattle.hs_anatomy.proofs.EventLemmas.{acts_keep, does_acts}
use Rattle.hs_anatomy.proofs.StepLemmas.{step_is}
use Rattle.hs_anatomy.specs.Acts.{Act, Aside, Asks, ByCopying, ByEmptying, Copies as CopiesIt, Empties, Enters, Falls, FindsDown, Gets, Goes, Hands, Hears, IsAnswered, IsAside, IsBehind, IsComing, IsFalling, IsLevel, Joins, Loses, Opens, Refuses, Repeats, Reports, Resends, Seals, SendsRound, Starts, Takes, TakesEffect, TellsDown, Views, begun, fallen, joined, sealed_by, without_job}
use Rattle.hs_anatomy.specs.Effect.{Class, OfBase, OfEnter, OfLine, OfRound, OfView, class_of, done_by, taken, tells_class, told_at_once}
use Rattle.hs_awaiting.specs.declared.wait.Wait.TheVariants as wait
use Rattle.hs_awaiting.specs.declared.waiting.Waiting.{Waiting}
use Rattle.hs_awaiting.specs.Words.{change_if, change_with, each}
use Rattle.hs_copies.specs.Machine.{Copies}
use Rattle.hs_core_copies.proofs.BesideLemmas.{home_of_peer}
use Rattle.hs_core_copies.proofs.DeliverLemmas.{message_has}
use Rattle.hs_core_copies.proofs.PlaceLemmas.{group_here, group_other, group_past}
use Rattle.hs_core_copies.proofs.StepsLemmas.{begins}
use Rattle.hs_core_copies.specs.InStep.{IsInStep, IsOf, IsWithin}
use Rattle.hs_core_words.specs.Asking.{send_round}
use Rattle.hs_core_words.specs.Changing.{add_entry_tasks, add_operation, change_group, change_pool, change_rejoin, note, post, set_rejoin, set_status, set_viewed}
use Rattle.hs_core_words.specs.declared.event.Event.{Event}
use Rattle.hs_core_words.specs.Effects.{note_enter, note_sweep, round_messages, tell_operation}
use Rattle.hs_core_words.specs.Failing.{leave}
use Rattle.hs_core_words.specs.Joining.{begin_joining, follow_lead, joining_peers}
use Rattle.hs_core_words.specs.Looking.{catalogue_of, group_of, home, known_of, lead_of, operation_of, shape_of, status_of}
use Rattle.hs_core_words.specs.Operating.{add_read, begin_line, busy_line, carry_out, go_on_with, propose_entry, take_step, wait_for}
use Rattle.hs_core_words.specs.Seeing.{pointers_for, view_for}
use Rattle.hs_core_words.specs.State.{Core}
use Rattle.hs_core_words.specs.Step.{do_event, end_event, keep_entries, line_of, refuse_entries, run_event, step}
use Rattle.hs_core_words.specs.Views.{begin_view, change_view, restart}
use Rattle.hs_desk.specs.declared.done.Done.TheVariants as done
use Rattle.hs_desk.specs.declared.fault.CoreFault.{CoreFault}
use Rattle.hs_desk.specs.declared.what.What.{What}
use Rattle.hs_desk.specs.declared.what.What.TheVariants as what
use Rattle.hs_entry.specs.declared.entry.Entry.{Entry}
use Rattle.hs_entry.specs.declared.entry.Entry.TheVariants as kind
use Rattle.hs_journal.specs.declared.entry.Who.TheVariants as who
use Rattle.hs_known_copies.specs.Causes.{ByFall, ByHave, ByJoin, BySeal, IsKnownBy}
use Rattle.hs_limits.specs.declared.limits.PeerStatus.TheVariants.{Good}
use Rattle.hs_members.specs.Members.{Members, has_good, home_of, is_good_status, status, view_of}
use Rattle.hs_model.specs.declared.deed.Deed.TheVariants as deed
use Rattle.hs_model.specs.declared.op.Op.{Op}
use Rattle.hs_model.specs.declared.reply.Reply.TheVariants as reply
use Rattle.hs_ops.specs.declared.step.OpStep.{OpStep}
use Rattle.hs_ops.specs.declared.step.OpStep.TheVariants.{Answer, Compare, Propose, Wait}
use Rattle.hs_ops.specs.Operations.{Operation, after_step, bytes_step, effect_step, go_step, new_operation}
use Rattle.hs_ops.specs.Speaking.{judging_shard}
use Rattle.hs_ops.specs.Views.{OpView}
use Rattle.hs_post.specs.declared.message.Message.TheVariants as message
use Rattle.hs_post.specs.Pool.{is_empty, restart_numbers, without}
use Rattle.hs_rejoin.specs.Rejoin.{copied, emptied, follow}
use Rattle.hs_replica.specs.declared.replica.Replica.{Replica}
use Rattle.hs_replica.specs.Group.{Group, change_copy, committed, copy_of, first_peer, have, hears, is_peer, last_number, lead, lead_takes, no_copy, on_copied, on_emptied, on_have, on_sealed, propose, proposal, renew, renewal, stamp, take_committed, take_entry}
use Rattle.hs_rounds.specs.Rounds.{sent_back}
use Rattle.hs_shard.specs.declared.effect.Effect.{Effect}
use Rattle.hs_shard.specs.Facts.{Catalogue}
use Rattle.hs_shard.specs.Rounds.{messages}

-- ---- a copy of a group

-- another peer's copy changes
other_copy : (q peer : ℕ) (h : Replica → Replica) (g : Group) → (q - first_peer g ≡ peer - first_peer g → ⊥) → copy_of (change_copy peer h g) q ≡ copy_of g q
other_copy q peer h g d = get_or-set_other g.copies (peer - first_peer g) (q - first_peer g) (h (copy_of g peer)) no_copy d

-- a copy changes, but not what is known of it
same_known : (q peer : ℕ) (h : Replica → Replica) (g : Group) → ((c : Replica) → (h c).known ≡ c.known) → (copy_of (change_copy peer h g) q).known ≡ (copy_of g q).known
same_known q peer h g same = by (cases_eq (q - first_peer g) (peer - first_peer g))
  where
    by_length : q - first_peer g ≡ peer - first_peer g → (peer - first_peer g < length g.copies) ⊎ (length g.copies ≤ peer - first_peer g) → (copy_of (change_copy peer h g) q).known ≡ (copy_of g q).known
    by_length is (inl low) =
        ap (λ n. (slice_index_or (slice_set g.copies (peer - first_peer g) (h (copy_of g peer))) n no_copy).known) is
        ∙ ap (λ (c : Replica). c.known) (get_or-set_same g.copies (peer - first_peer g) (h (copy_of g peer)) no_copy low)
        ∙ same (copy_of g peer) ∙ ap (λ n. (slice_index_or g.copies n no_copy).known) (sym is)
    by_length is (inr high) = ap (λ (cs : List Replica). (slice_index_or cs (q - first_peer g) no_copy).known) (set_past g.copies (peer - first_peer g) (h (copy_of g peer)) high)

    by : (q - first_peer g ≡ peer - first_peer g) ⊎ (q - first_peer g ≢ peer - first_peer g) → (copy_of (change_copy peer h g) q).known ≡ (copy_of g q).known
    by (inl is) = by_length is (cases_lt (peer - first_peer g) (length g.copies))
    by (inr d) = ap (λ (c : Replica). c.known) (other_copy q peer h g d)

lead_known : (l : Option ℕ) (entry : Entry) (g : Group) (q : ℕ) → (copy_of (lead_takes l entry g) q).known ≡ (copy_of g q).known
lead_known None entry g q = refl
lead_known (Some l) entry g q = same_known q l (λ (c : Replica). record c { stamps = stamp entry c.stamps }) g (λ c. refl)

handed_known : (o : Option (ℕ × Entry)) (g : Group) (q : ℕ) → (copy_of (option_map_or (λ (x : ℕ × Entry). record g { front = x.0; waiting = drop 1 g.waiting }) o g) q).known ≡ (copy_of g q).known
handed_known None g q = refl
handed_known (Some x) g q = refl

-- ---- what is known of a peer

module _ (p : ℕ) where
  group_known : (shard : ℕ) (f : Group → Group) (c : Core) → (home p c ≡ shard → (copy_of (f (group_of shard c)) p).known ≡ (copy_of (group_of shard c) p).known) → known_of p (change_group shard f c) ≡ known_of p c
  group_known shard f c same = by (cases_eq (home p c) shard)
    where
      by_length : home p c ≡ shard → (shard < length c.groups) ⊎ (length c.groups ≤ shard) → known_of p (change_group shard f c) ≡ known_of p c
      by_length is (inl low) =
          ap (λ g. (copy_of (group_of g (change_group shard f c)) p).known) is ∙ ap (λ (x : Group). (copy_of x p).known) (group_here shard f c low)
          ∙ same is ∙ ap (λ g. (copy_of (group_of g c) p).known) (sym is)
      by_length is (inr high) =
          ap (λ g. (copy_of (group_of g (change_group shard f c)) p).known) is ∙ ap (λ (x : Group). (copy_of x p).known) (group_past shard f c high)
          ∙ ap (λ g. (copy_of (group_of g c) p).known) (sym is)

      by : (home p c ≡ shard) ⊎ (home p c ≢ shard) → known_of p (change_group shard f c) ≡ known_of p c
      by (inl is) = by_length is (cases_lt shard (length c.groups))
      by (inr d) = ap (λ (x : Group). (copy_of x p).known) (group_other (home p c) shard f c d)

  with_known : {B : Type 0} (o : Option B) (f : B → Core → Core) (c : Core) → ((y : B) (x : Core) → known_of p (f y x) ≡ known_of p x) → known_of p (change_with o f c) ≡ known_of p c
  with_known None f c k = refl
  with_known (Some y) f c k = k y c

  if_known : (b : Bool) (f : Core → Core) (c : Core) → known_of p (f c) ≡ known_of p c → known_of p (change_if b f c) ≡ known_of p c
  if_known true f c k = k
  if_known false f c k = refl

  each_known : {B : Type 0} (ys : List B) (f : B → Core → Core) (c : Core) → ((y : B) (x : Core) → known_of p (f y x) ≡ known_of p x) → known_of p (each ys f c) ≡ known_of p c
  each_known [] f c k = refl
  each_known (y ∷ ys) f c k = each_known ys f (f y c) k ∙ k y c

  -- ---- operations and entries

  propose_known : (shard : ℕ) (entry : Entry) (c : Core) → known_of p (propose_entry shard entry c) ≡ known_of p c
  propose_known shard entry c =
      let sent : Core = post (proposal entry (group_of shard c)) (change_group shard (propose entry) c) in
      with_known (lead_of shard c) (λ peer. add_entry_tasks peer (last_number (group_of shard c) + 1) entry) sent (λ l x. refl)
      ∙ group_known shard (propose entry) c (λ is. lead_known (lead (group_of shard c)) entry (group_of shard c) p)

  carry_known : (line : ℕ) (w : Waiting) (asked : OpStep) (c : Core) → known_of p (carry_out line w asked c) ≡ known_of p c
  carry_known line w (Answer told) c = refl
  carry_known line w (Propose entry) c = propose_known w.shard entry (wait_for line w (wait.Entry (last_number (group_of w.shard c) + 1)) c)
  carry_known line w (Compare number) c = with_known (lead_of w.shard c) (add_read number line) (wait_for line w (wait.Bytes number) c) (λ l x. refl)
  carry_known line w Wait c = refl

  step_known : (line : ℕ) (w : Waiting) (asked : OpStep) (c : Core) → known_of p (take_step line w asked c) ≡ known_of p c
  step_known line w asked c = carry_known line (record w { operation = after_step asked w.operation }) asked c

  go_known : (next : OpView → Operation → OpStep) (line : ℕ) (c : Core) → known_of p (go_on_with next line c) ≡ known_of p c
  go_known next line c =
      with_known (operation_of line c) (λ (w : Waiting). take_step line w (next (view_for w.shard w.operation.op c) w.operation)) c
      (λ w x. step_known line w (next (view_for w.shard w.operation.op c) w.operation) x)

  line_known : (line : ℕ) (o : Op) (c : Core) → known_of p (begin_line line o c) ≡ known_of p c
  line_known line o c =
      let first : Core = record c { progress = record c.progress { last_line = line } } in
      let shard : ℕ = judging_shard (shape_of c).shards c.sessions o in
      let w : Waiting = record { operation = new_operation line o; shard = shard; wait = wait.View } in
      let v : OpView = record (view_for shard o first) { busy = busy_line o c } in
      step_known line w (go_step v w.operation) (add_operation line w first)

  enter_known : (shard : ℕ) (did : What) (c : Core) → known_of p (note_enter shard did c) ≡ known_of p c
  enter_known shard what.Nothing c = refl
  enter_known shard (what.Viewed view) c = refl
  enter_known shard what.Stored c = refl
  enter_known shard what.Marked c = refl
  enter_known shard what.Again c = refl
  enter_known shard what.Rooted c = refl
  enter_known shard what.Dropped c = refl
  enter_known shard (what.Entered epoch) c = refl
  enter_known shard what.Refused c = refl

  tells_known : (class : Class) (shard : ℕ) (effect : Effect) (c : Core) → known_of p (tells_class class shard effect c) ≡ known_of p c
  tells_known (OfLine line) shard effect c = go_known (λ v o. effect_step v effect.what o) line c
  tells_known (OfEnter line) shard effect c = by (is_some (operation_of line c))
    where
      by : (b : Bool) → known_of p (if b then tell_operation line effect.what c else note_enter shard effect.what c) ≡ known_of p c
      by true = go_known (λ v o. effect_step v effect.what o) line c
      by false = enter_known shard effect.what c
  tells_known (OfView view) shard effect c = refl
  tells_known OfRound shard effect c =
      with_known effect.removed (note_sweep shard) c
      (λ removed x. if_known (list_all (λ (d : Catalogue). nat_le (catalogue_of shard x).swept d.swept) x.catalogues) (note who.Store deed.Nothing (reply.Done (catalogue_of shard x).swept)) (note (who.Shard shard) (deed.Swept shard) (reply.Sweep (catalogue_of shard x).swept removed) x) refl)
  tells_known OfBase shard effect c = refl

  effect_known : (shard : ℕ) (entry : Entry) (c : Core) → known_of p (told_at_once shard entry c) ≡ known_of p c
  effect_known shard entry c =
      tells_known (class_of entry) shard (done_by shard entry c).effect (taken shard entry c)
      ∙ group_known shard take_committed c (λ is. handed_known (committed (group_of shard c)) (group_of shard c) p)

  round_known : (back shard : ℕ) (c : Core) → known_of p (send_round back shard c) ≡ known_of p c
  round_known back shard c =
      let run = (catalogue_of shard c).run in
      with_known (sent_back back run) (λ at. post (round_messages shard (messages (catalogue_of shard c).shape.shards at.0 at.1 run))) c (λ at x. refl)

  -- ---- peers

  follow_known : (shard : ℕ) (c : Core) → known_of p (follow_lead shard c) ≡ known_of p c
  follow_known shard c =
      with_known (lead_of shard c) (λ lead x. each (joining_peers shard x) (λ peer. change_rejoin peer (follow lead)) x) c
      (λ lead x. each_known (joining_peers shard x) (λ peer. change_rejoin peer (follow lead)) x (λ peer y. refl))

  -- a view of another shard begins
  view_known : (shard : ℕ) (c : Core) → (home p c ≡ shard → ⊥) → known_of p (begin_view shard c) ≡ known_of p c
  view_known shard c d =
      let now : Core = restart shard (change_group shard (renew c.members) (set_viewed shard false c)) in
      propose_known shard (kind.View (view_of shard c.members)) (post (renewal (group_of shard now)) now)
      ∙ group_known shard (renew c.members) (set_viewed shard false c) (λ is. absurd (d is))

  change_known : (shard : ℕ) (c : Core) → (home p c ≡ shard → ⊥) → known_of p (change_view shard c) ≡ known_of p c
  change_known shard c d = if_known (has_good shard c.members) (begin_view shard) c (view_known shard c d)

  fall_known : (good leads : Bool) (shard : ℕ) (c : Core) → (good ≡ true → home p c ≡ shard → ⊥)
      → known_of p (change_if leads (λ x. each (joining_peers shard x) begin_joining x) (change_if good (change_view shard) c)) ≡ known_of p c
  fall_known false leads shard c d = if_known leads (λ x. each (joining_peers shard x) begin_joining x) c (each_known (joining_peers shard c) begin_joining c (λ peer y. refl))
  fall_known true leads shard c d =
      if_known leads (λ x. each (joining_peers shard x) begin_joining x) (change_view shard c) (each_known (joining_peers shard (change_view shard c)) begin_joining (change_view shard c) (λ peer y. refl))
      ∙ change_known shard c (d refl)

  end_known : (c : Core) → known_of p (end_event c) ≡ known_of p c
  end_known c = by (nat_lt c.limits.ops (length c.journal + length c.entries))
    where
      by : (b : Bool) → known_of p (if b then refuse_entries c else keep_entries c) ≡ known_of p c
      by true = refl
      by false = refl

  -- ---- acts

  module _ (g : ℕ) (s : Core) (copies : Copies Entry) (st : IsInStep g s copies) (own : IsOf s.members.shape g p) (x : Event) where
    abbrev Row : Core → Core → Type 0
    Row a b = (known_of p b ≡ known_of p a) ⊎ IsKnownBy s (Some x) p

    -- another peer of the shard has another place
    apart : (q : ℕ) → IsOf s.members.shape g q → (p ≡ q → ⊥) → p - first_peer (group_of g s) ≡ q - first_peer (group_of g s) → ⊥
    apart q of_it d same =
        let low = (home_of_peer g s copies st p own).0 in
        let other = (home_of_peer g s copies st q of_it).0 in
        d (omega (arith, low, other, same))

    seals : (peer number : ℕ) → IsAnswered s (Some x) s peer (done.Sealed number) → Row s (sealed_by peer number (without_job peer s))
    seals peer number known = by (cases_eq p peer)
      where
        two : Core
        two = post (have peer number (group_of (home peer s) (without_job peer s))) (without_job peer s)

        other : (p ≡ peer → ⊥) → home p s ≡ home peer s → (copy_of (on_sealed peer number (group_of (home peer s) s)) p).known ≡ (copy_of (group_of (home peer s) s) p).known
        other d is =
            let of_it : home peer s ≡ g = sym is ∙ own in
            ap (λ (c : Replica). c.known) (other_copy p peer (λ (c : Replica). record c { sealed = number; known = if is_peer peer (lead (group_of (home peer s) s)) then max c.known number else c.known }) (group_of (home peer s) s)
            (λ same. apart peer of_it d (subst (λ n. p - first_peer (group_of n s) ≡ peer - first_peer (group_of n s)) of_it same)))

        by : (p ≡ peer) ⊎ (p ≢ peer) → Row s (sealed_by peer number (without_job peer s))
        by (inl same) = inr (BySeal number (subst (λ q. IsAnswered s (Some x) s q (done.Sealed number)) (sym same) known))
        by (inr d) = inl (group_known (home peer s) (on_sealed peer number) two (λ is. other d is))

    hears_row : (number shard from to view sealed : ℕ) → IsComing s (Some x) s number (message.Have shard from to view sealed) → Row s (change_group shard (on_have from view sealed) (change_pool (without number) s))
    hears_row number shard from to view sealed known = by (cases_eq p from)
      where
        heard : (b : Bool) → (p ≡ from → ⊥) → home p s ≡ shard → (h : Replica → Replica) → (copy_of (if b then change_copy from h (group_of shard s) else group_of shard s) p).known ≡ (copy_of (group_of shard s) p).known
        heard false d is h = refl
        heard true d is h =
            let of_it : home from s ≡ g = message_has (IsWithin s.members.shape) number s.pool (message.Have shard from to view sealed) known.at st.seated.within ∙ sym is ∙ own in
            let here : shard ≡ g = sym is ∙ own in
            ap (λ (c : Replica). c.known) (other_copy p from h (group_of shard s)
            (λ same. apart from of_it d (subst (λ n. p - first_peer (group_of n s) ≡ from - first_peer (group_of n s)) here same)))

        by : (p ≡ from) ⊎ (p ≢ from) → Row s (change_group shard (on_have from view sealed) (change_pool (without number) s))
        by (inl same) = inr (ByHave number shard to view sealed (subst (λ q. IsComing s (Some x) s number (message.Have shard q to view sealed)) (sym same) known))
        by (inr d) = inl (group_known shard (on_have from view sealed) (change_pool (without number) s) (λ is. heard (hears from view (group_of shard s)) d is (λ (c : Replica). record c { known = max c.known sealed })))

    aside_row : (a b : Core) → Aside s (Some x) a b → Row a b
    aside_row a b (Reports peer d known) = inl refl
    aside_row a b (Seals peer number known) =
        subst (λ z. Row z (sealed_by peer number (without_job peer z))) (sym known.start)
        (seals peer number (subst (λ z. IsAnswered s (Some x) z peer (done.Sealed number)) known.start known))
    aside_row a b (Empties peer known) =
        inl (group_known (home peer a) (on_emptied peer) (change_rejoin peer emptied (without_job peer a)) (λ is. same_known p peer (λ (c : Replica). record c { stamps = []; sealed = 0 }) (group_of (home peer a) a) (λ c. refl)))
    aside_row a b (CopiesIt peer number known) =
        let group : Group = group_of (home peer a) a in
        inl (group_known (home peer a) (on_copied peer number) (change_rejoin peer (copied number) (without_job peer a))
        (λ is. same_known p peer (λ (c : Replica). record c { stamps = c.stamps ++ slice_index_or (option_map_or (λ l. (copy_of group l).stamps) (lead group) []) (number - 1) 0 ∷ []; sealed = number }) group (λ c. refl)))
    aside_row a b (Loses number m at) = inl refl
    aside_row a b (Takes number shard to view next entry known fits) =
        let gone : Core = change_pool (without number) a in
        inl (follow_known shard (add_entry_tasks to next entry (change_group shard (take_entry to entry) gone))
        ∙ group_known shard (take_entry to entry) gone (λ is. same_known p to (λ (c : Replica). record c { stamps = stamp entry c.stamps }) (group_of shard a) (λ c. refl)))
    aside_row a b (Hears number shard from to view sealed known good) =
        subst (λ z. Row z (change_group shard (on_have from view sealed) (change_pool (without number) z))) (sym known.start)
        (hears_row number shard from to view sealed (subst (λ z. IsComing s (Some x) z number (message.Have shard from to view sealed)) known.start known))
    aside_row a b (Repeats number m at room) = inl refl
    aside_row a b (Resends shard peer known) = inl refl
    aside_row a b (Starts line peer start known may) = inl refl
    aside_row a b (Views shard) = inl refl

    -- a peer goes down
    falls_row : (peer : ℕ) (a : Core) → IsFalling s (Some x) a peer → Row a (fallen peer a)
    falls_row peer a known = by (is_good_status (status_of peer a)) refl (cases_eq (home p a) (home peer a))
      where
        kept : (is_good_status (status_of peer a) ≡ true → home p a ≡ home peer a → ⊥) → known_of p (fallen peer a) ≡ known_of p a
        kept d = fall_known (is_good_status (status_of peer a)) (is_peer peer (lead_of (home peer a) a)) (home peer a) (leave peer a) d

        by : (b : Bool) → is_good_status (status_of peer a) ≡ b → (home p a ≡ home peer a) ⊎ (home p a ≢ home peer a) → Row a (fallen peer a)
        by false bad place = inl (kept (λ good. absurd (none (sym good ∙ bad))))
          where
            none : true ≡ false → ⊥
            none e = cc e
        by true good (inl same) =
            inr (ByFall peer known.why (ap (λ (m : Members). is_good_status (status peer m)) (sym known.members) ∙ good)
            (ap (λ (m : Members). home_of m.shape peer) (sym known.members) ∙ sym same ∙ ap (λ (m : Members). home_of m.shape p) known.members))
        by true good (inr d) = inl (kept (λ g is. d is))

    -- the members as a peer joins are those with which the event has begun
    behind_members : (peer : ℕ) (a : Core) → IsBehind s (Some x) a peer → a.members ≡ s.members
    behind_members peer a (ByEmptying answered is) = ap (λ (c : Core). c.members) is
    behind_members peer a (ByCopying number answered is) = ap (λ (c : Core). c.members) is

    joins_row : (peer : ℕ) (a : Core) → IsLevel s (Some x) a peer → Row a (joined peer a)
    joins_row peer a level = by (cases_eq (home p a) (home peer a))
      where
        now : Core
        now = set_rejoin peer None (set_status peer Good a)

        by : (home p a ≡ home peer a) ⊎ (home p a ≢ home peer a) → Row a (joined peer a)
        by (inl same) =
            let members : a.members ≡ s.members = behind_members peer a level.behind in
            inr (ByJoin peer a level (ap (λ (m : Members). home_of m.shape peer) (sym members) ∙ sym same ∙ ap (λ (m : Members). home_of m.shape p) members))
        by (inr d) = inl (follow_known (home peer a) (change_view (home peer a) now) ∙ change_known (home peer a) now d)

    act_row : (a b : Core) → Act s (Some x) a b → Row a b
    act_row a b (IsAside y) = aside_row a b y
    act_row a b (Refuses now refusal is why) = inl refl
    act_row a b (TellsDown by peer is) = inl refl
    act_row a b (FindsDown peer none bad) = inl refl
    act_row a b (Asks line o start is) = inl (line_known line o a)
    act_row a b (Goes line w at idle) = inl (go_known go_step line a)
    act_row a b (Hands peer number line bytes w known) = inl (go_known (λ v o. bytes_step v bytes (pointers_for w.shard w.operation.op (without_job peer a)) o) line (without_job peer a))
    act_row a b (TakesEffect shard number entry next) = inl (effect_known shard entry a)
    act_row a b (Enters shard urged due) = inl (propose_known shard (kind.Enter 0 ((catalogue_of shard a).epoch + 1)) a)
    act_row a b (Gets number from to epoch round total deltas known new) = inl (propose_known to (kind.Got from epoch round total deltas) (change_pool (without number) a))
    act_row a b (SendsRound back shard peer known) = inl (round_known back shard a)
    act_row a b (Falls peer known) = falls_row peer a known
    act_row a b (Joins peer level) = joins_row peer a level
    act_row a b (Opens shard none good) = absurd (never none)
      where
        never : Some x ≡ None → ⊥
        never e = cc e

    does_known : Row s (do_event x s)
    does_known = acts_keep (λ b. Row s b) keep (do_event x s) (does_acts s x) (inl refl)
      where
        join : (a b : Core) → Row a b → Row s a → Row s b
        join a b r (inr cause) = inr cause
        join a b (inl same) (inl was) = inl (same ∙ was)
        join a b (inr cause) (inl was) = inr cause

        keep : (a b : Core) → Act s (Some x) a b → Row s a → Row s b
        keep a b act row = join a b (act_row a b act) row

  -- ---- an event

  begun_in_step : (g : ℕ) (x : Event) (at : ℕ) (c : Core) (copies : Copies Entry) → IsInStep g c copies → IsInStep g (begun x at c) copies
  begun_in_step g x at c copies st = subst (λ y. IsInStep g y copies) (is ((c.progress.event_line == 0 && not (line_of x == 0)) && is_empty c.pool)) (begins g (line_of x) at c copies st)
    where
      is : (b : Bool) → record (change_if b (change_pool restart_numbers) c) { moment = at; progress = record c.progress { event_line = if line_of x == 0 then c.progress.event_line else line_of x } }
          ≡ record c { pool = change_if b restart_numbers c.pool; moment = at; progress = record c.progress { event_line = if line_of x == 0 then c.progress.event_line else line_of x } }
      is true = refl
      is false = refl

  pub known_by : (g : ℕ) (c : Core) (copies : Copies Entry) (x : Event) (at : ℕ) → IsInStep g c copies → IsOf c.members.shape g p → (known_of p (step x at c) ≡ known_of p c) ⊎ IsKnownBy (begun x at c) (Some x) p
  known_by g c copies x at st own = by c.ended refl
    where
      row : (known_of p (do_event x (begun x at c)) ≡ known_of p c) ⊎ IsKnownBy (begun x at c) (Some x) p → c.ended ≡ None → (known_of p (step x at c) ≡ known_of p c) ⊎ IsKnownBy (begun x at c) (Some x) p
      row (inl same) going = inl (ap (known_of p) (step_is x at c going) ∙ end_known (do_event x (begun x at c)) ∙ same)
      row (inr cause) going = inr cause

      by : (o : Option CoreFault) → c.ended ≡ o → (known_of p (step x at c) ≡ known_of p c) ⊎ IsKnownBy (begun x at c) (Some x) p
      by (Some f) e = inl (ap (λ (o : Option CoreFault). known_of p (change_if (is_none o) (run_event x at) c)) e)
      by None e = row (does_known g (begun x at c) copies (begun_in_step g x at c copies st) own x) e
