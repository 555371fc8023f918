-- Each event keeps the jobs that read in the queues of their operations' shards.
use Rattle.std.proofs.Common.{◌≡◌, sym, subst, ℕ, ◌+◌, ◌<◌, ◌≤◌, ◌==◌, Bool, true, false, cond, List, [], ◌∷◌, drop, length, Option, Some, None, refl, arith, nat_lt}
use Rattle.std.proofs.lemmas.Bool.Decides.{nat_tests}
use Rattle.std.specs.BTreeMap.{insert_entry}
use Rattle.std.specs.Ordering.{nat_cmp}
use Rattle.std.specs.Prelude.{if◌then◌else◌}
use Rattle.hs_anatomy.proofs.EventLemmas.{does_acts, opening_acts}
use Rattle.hs_anatomy.proofs.StillLemmas.{strokes_keep}
use Rattle.hs_anatomy.proofs.StrokeLemmas.{strokes_of}
use Rattle.hs_anatomy.specs.Acts.{Aside, Copies, Empties, Hears, Loses, Repeats, Reports, Resends, Seals, Starts, Takes, Views, without_job}
use Rattle.hs_anatomy.specs.Strokes.{Adds, Answers, BeginsAgain, Besides, Follows, IsStill, Leaves, Notes, Proposes, Reads, Renews, SendsAgain, Still, Stroke, TakesOut, TurnsGood, Waits}
use Rattle.hs_awaiting.specs.declared.wait.Wait.TheVariants as wait
use Rattle.hs_awaiting.specs.declared.waiting.Waiting.{Waiting}
use Rattle.hs_awaiting.specs.Words.{change_with, each}
use Rattle.hs_core_words.specs.Changing.{add_entry_tasks, add_operation, change_group, change_pool, change_rejoin, post, set_status, set_viewed}
use Rattle.hs_core_words.specs.declared.event.Event.{Event}
use Rattle.hs_core_words.specs.declared.event.Event.TheVariants as event
use Rattle.hs_core_words.specs.Effects.{round_messages}
use Rattle.hs_core_words.specs.Joining.{begin_joining, follow_lead, joining_peers, start}
use Rattle.hs_core_words.specs.Looking.{catalogue_of, group_of, home, lead_of, operation_of, shape_of, tasks_of}
use Rattle.hs_core_words.specs.Opening.{begin_views, note_down}
use Rattle.hs_core_words.specs.Operating.{begin_line, busy_line, carry_out, take_step, wait_for, what_holds}
use Rattle.hs_core_words.specs.Seeing.{view_for}
use Rattle.hs_core_words.specs.State.{Core}
use Rattle.hs_core_words.specs.Step.{do_event, end_event, keep_entries, line_of, refuse_entries, step}
use Rattle.hs_effects.proofs.LookLemmas.{found_insert, found_set}
use Rattle.hs_limits.specs.declared.limits.PeerStatus.TheVariants.{Down}
use Rattle.hs_model.specs.declared.command.Command.{Command}
use Rattle.hs_model.specs.declared.op.Op.{Op}
use Rattle.hs_moments.proofs.AloneEventLemmas.{begun, step_is}
use Rattle.hs_ops.specs.declared.step.OpStep.{OpStep}
use Rattle.hs_ops.specs.declared.step.OpStep.TheVariants.{Answer, Compare, Propose, Wait}
use Rattle.hs_ops.specs.Operations.{after_step, go_step, new_operation}
use Rattle.hs_ops.specs.Speaking.{judging_shard}
use Rattle.hs_ops.specs.Views.{OpView}
use Rattle.hs_post.specs.Pool.{without}
use Rattle.hs_clauses.proofs.HomeLemmas.{Fine, FineAt, all_behind, copied_long, emptied_long, fine_entry_tasks, fine_group, fine_over, fine_propose, fine_put, fine_queue, fine_read, fine_restart, handed_long, heard_long, later_by, new_line, renewed_long, sealed_long, taken_long}
use Rattle.hs_clauses.specs.Home.{IsAtHome}
use Rattle.hs_rejoin.specs.Rejoin.{copied, emptied, follow}
use Rattle.hs_replica.specs.Group.{committed, have, last_number, on_copied, on_emptied, on_have, on_sealed, renew, take_committed, take_entry}
use Rattle.hs_rounds.specs.Rounds.{sent_back}
use Rattle.hs_shard.specs.Rounds.{messages}
use Rattle.hs_told.specs.InTurn.{MayCome}

-- ---- operations

fine_carry : (line : ℕ) (u w : Waiting) (taken : OpStep) (c : Core) → operation_of line c ≡ Some u → w.shard ≡ u.shard → Fine c → Fine (carry_out line w taken c)
fine_carry line u w (Answer told) c at same h = fine_over line c h
fine_carry line u w (Propose entry) c at same h =
    let x : Waiting = record w { wait = wait.Entry (last_number (group_of w.shard c) + 1) } in
    fine_propose w.shard entry (wait_for line w (wait.Entry (last_number (group_of w.shard c) + 1)) c) (fine_put line x u c at same h)
fine_carry line u w (Compare number) c at same h =
    let x : Waiting = record w { wait = wait.Bytes number } in
    fine_read w.shard number line x (wait_for line w (wait.Bytes number) c) (found_set line c.operations u x at) refl (fine_put line x u c at same h)
fine_carry line u w Wait c at same h = fine_put line (record w { wait = what_holds w c }) u c at same h

fine_step : (line : ℕ) (u : Waiting) (taken : OpStep) (c : Core) → operation_of line c ≡ Some u → Fine c → Fine (take_step line u taken c)
fine_step line u taken c at h = fine_carry line u (record u { operation = after_step taken u.operation }) taken c at refl h

-- ---- strokes

fine_with : {B : Type 0} (o : Option B) (f : B → Core → Core) (c : Core) → ((y : B) (x : Core) → Fine x → Fine (f y x)) → Fine c → Fine (change_with o f c)
fine_with None f c k h = h
fine_with (Some y) f c k h = k y c h

fine_each : {B : Type 0} (ys : List B) (f : B → Core → Core) (c : Core) → ((y : B) (x : Core) → Fine x → Fine (f y x)) → Fine c → Fine (each ys f c)
fine_each [] f c k h = h
fine_each (y ∷ ys) f c k h = fine_each ys f (f y c) k (k y c h)

fine_follow : (shard : ℕ) (c : Core) → Fine c → Fine (follow_lead shard c)
fine_follow shard c h =
    fine_with (lead_of shard c) (λ lead x. each (joining_peers shard x) (λ peer. change_rejoin peer (follow lead)) x) c
    (λ lead x g. fine_each (joining_peers shard x) (λ peer. change_rejoin peer (follow lead)) x (λ peer y k. k) g) h

fine_done : (peer : ℕ) (c : Core) → Fine c → Fine (without_job peer c)
fine_done peer c h = fine_queue peer (drop 1 (tasks_of peer c)) c (all_behind (IsAtHome c.operations c.progress.event_line (home peer c)) (tasks_of peer c) (h.home peer)) h

module _ {s : Core} {e : Option Event} where
  fine_aside : (a b : Core) → Aside s e a b → Fine a → Fine b
  fine_aside a b (Reports peer d known) h = fine_done peer a h
  fine_aside a b (Seals peer number known) h =
      let one : Core = without_job peer a in
      let two : Core = post (have peer number (group_of (home peer one) one)) one in
      fine_group (home peer a) (on_sealed peer number) two (sealed_long peer number (group_of (home peer a) two)) (fine_done peer a h)
  fine_aside a b (Empties peer known) h =
      let two : Core = change_rejoin peer emptied (without_job peer a) in
      fine_group (home peer a) (on_emptied peer) two (emptied_long peer (group_of (home peer a) two)) (fine_done peer a h)
  fine_aside a b (Copies peer number known) h =
      let two : Core = change_rejoin peer (copied number) (without_job peer a) in
      fine_group (home peer a) (on_copied peer number) two (copied_long peer number (group_of (home peer a) two)) (fine_done peer a h)
  fine_aside a b (Loses number m at) h = h
  fine_aside a b (Takes number shard to view next entry known fits) h =
      let gone : Core = change_pool (without number) a in
      let one : Core = change_group shard (take_entry to entry) gone in
      fine_follow shard (add_entry_tasks to next entry one) (fine_entry_tasks to next entry one (fine_group shard (take_entry to entry) gone (taken_long to entry (group_of shard gone)) h))
  fine_aside a b (Hears number shard from to view sealed known good) h =
      let gone : Core = change_pool (without number) a in
      fine_group shard (on_have from view sealed) gone (heard_long from view sealed (group_of shard gone)) h
  fine_aside a b (Repeats number m at room) h = h
  fine_aside a b (Resends shard peer known) h = h
  fine_aside a b (Starts line peer start known may) h = h
  fine_aside a b (Views shard) h = h

  fine_still : (a b : Core) → Still s e a b → Fine a → Fine b
  fine_still a b (Besides x) h = fine_aside a b x h
  fine_still a b (Proposes shard entry by) h = fine_propose shard entry a h
  fine_still a b (Reads line number w at waits) h = fine_read w.shard number line w a at refl h
  fine_still a b (SendsAgain back shard peer known) h =
      let run = (catalogue_of shard a).run in
      fine_with (sent_back back run) (λ sent. post (round_messages shard (messages (catalogue_of shard a).shape.shards sent.0 sent.1 run))) a (λ sent x g. g) h
  fine_still a b (Leaves peer known) h = fine_queue peer [] (set_status peer Down a) tt h
  fine_still a b (TurnsGood peer) h = h
  fine_still a b (BeginsAgain shard) h = fine_each (joining_peers shard a) begin_joining a (λ peer x g. g) h
  fine_still a b (Follows shard) h = fine_follow shard a h

  fine_stroke : ((line : ℕ) (o : Op) → e ≡ Some (event.Line line o) → ⊥) → (a b : Core) → Stroke s e a b → Fine a → Fine b
  fine_stroke calm a b (IsStill x) h = fine_still a b x h
  fine_stroke calm a b (Notes by) h = h
  fine_stroke calm a b (Adds line o start is) h = absurd (calm line o is)
  fine_stroke calm a b (Waits line w was at one) h = fine_put line w was a at one.shard h
  fine_stroke calm a b (Answers line w was told at one by) h = fine_over line a h
  fine_stroke calm a b (TakesOut shard number entry next) h = fine_group shard take_committed a (handed_long (committed (group_of shard a)) (group_of shard a)) h
  fine_stroke calm a b (Renews shard) h =
      let one : Core = set_viewed shard false a in
      let two : Core = change_group shard (renew a.members) one in
      fine_restart shard (last_number (group_of shard two)) two (fine_group shard (renew a.members) one (renewed_long a.members (group_of shard a)) h)

-- ---- events

-- a client's line that is above all others
fine_line : (line : ℕ) (o : Op) (c : Core) (last : ℕ) → last < line → c.progress.event_line ≡ line → FineAt (shape_of c) c.groups c.tasks c.operations last → Fine (begin_line line o c)
fine_line line o c last high now h =
    let begun : Core = record c { progress = record c.progress { last_line = line } } in
    let shard : ℕ = judging_shard (shape_of c).shards c.sessions o in
    let w : Waiting = record { operation = new_operation line o; shard = shard; wait = wait.View } in
    let v : OpView = record (view_for shard o begun) { busy = busy_line o c } in
    let with_it : Core = add_operation line w begun in
    fine_step line w (go_step v w.operation) with_it (found_insert line c.operations w)
    (subst (λ n. FineAt (shape_of c) c.groups c.tasks (insert_entry nat_cmp c.operations line w) n) (sym now) (new_line (shape_of c) c.groups c.tasks c.operations last line w high h))

-- the other events
fine_do : (e : Event) (c : Core) → ((line : ℕ) (o : Op) → e ≡ event.Line line o → ⊥) → Fine c → Fine (do_event e c)
fine_do e c other h = strokes_keep Fine (fine_stroke (λ line o is. other line o (cc is))) (do_event e c) (strokes_of (does_acts c e)) h

fine_ended : (c : Core) → Fine c → Fine (end_event c)
fine_ended c h = by (nat_lt c.limits.ops (length c.journal + length c.entries))
  where
    by : (b : Bool) → Fine (cond b (refuse_entries c) (keep_entries c))
    by true = h
    by false = h

-- the last line is the event's where that has one, and none is below it
later_if : (line last : ℕ) (b : Bool) → (b ≡ false → last ≤ line) → last ≤ (if b then last else line)
later_if line last true up = omega arith
later_if line last false up = up refl

line_is : (line last : ℕ) → last < line → (if line == 0 then last else line) ≡ line
line_is line last high = by (line == 0) not_none
  where
    not_none : (line == 0) ≡ false
    not_none = grind (arith, nat_tests, high)

    by : (b : Bool) → b ≡ false → (cond b last line) ≡ line
    by true e = absurd (cc e)
    by false e = refl

module _ (commands : ℕ → Option Command) (at : ℕ) (c : Core) (moment : ℕ) (h : Fine c) where
  -- it is no client's line
  fine_other : (e : Event) → ((line : ℕ) (o : Op) → e ≡ event.Line line o → ⊥) → ((line_of e == 0) ≡ false → c.progress.event_line ≤ line_of e) → Fine (do_event e (begun e at c))
  fine_other e other up =
      fine_do e (begun e at c) other
      (later_by (shape_of c) c.groups c.tasks c.operations c.progress.event_line (begun e at c).progress.event_line (later_if (line_of e) c.progress.event_line (line_of e == 0) up) h)

  fine_happens : (e : Event) → MayCome commands c e moment → Fine (do_event e (begun e at c))
  fine_happens (event.Line line o) may =
      fine_line line o (begun (event.Line line o) at c) c.progress.event_line may.begins.above (line_is line c.progress.event_line may.begins.above) h
  fine_happens (event.Report peer d) may = fine_other (event.Report peer d) (λ line o e. cc e) (λ e. (let bad : true ≡ false = e in absurd (cc bad)))
  fine_happens (event.Turn line peer) may = fine_other (event.Turn line peer) (λ l o e. cc e) (λ e. may.begins.upward)
  fine_happens (event.Deliver line number) may = fine_other (event.Deliver line number) (λ l o e. cc e) (λ e. may.begins.upward)
  fine_happens (event.Lose line number) may = fine_other (event.Lose line number) (λ l o e. cc e) (λ e. may.begins.upward)
  fine_happens (event.Repeat line number) may = fine_other (event.Repeat line number) (λ l o e. cc e) (λ e. may.begins.upward)
  fine_happens (event.Nudge line peer) may = fine_other (event.Nudge line peer) (λ l o e. cc e) (λ e. may.begins.upward)
  fine_happens (event.Fail line peer) may = fine_other (event.Fail line peer) (λ l o e. cc e) (λ e. may.begins.upward)
  fine_happens (event.Start line peer) may = fine_other (event.Start line peer) (λ l o e. cc e) (λ e. may.begins.upward)

  pub fine_event : (e : Event) → c.ended ≡ None → MayCome commands c e moment → Fine (step e at c)
  fine_event e going may = subst (λ (x : Core). Fine x) (sym (step_is e at c going)) (fine_ended (do_event e (begun e at c)) (fine_happens e may))

-- ---- as a core opens

pub fine_opens : (c : Core) → Fine c → Fine (end_event (note_down (begin_views c)))
fine_opens c h =
    fine_ended (note_down (begin_views c)) (strokes_keep Fine (fine_stroke (λ line o is. cc is)) (note_down (begin_views c)) (strokes_of (opening_acts c)) h)
