-- Nobody begins to join by the events of a book.
use Rattle.std.proofs.Common.{◌≡◌, ℕ, zero, suc, ◌+◌, ◌-◌, Bool, true, false, List, [], ◌∷◌, Option, Some, None, refl}
use Rattle.std.specs.BTreeMap.{insert_entry, is_at}
use Rattle.std.specs.Map.{set_value}
use Rattle.std.specs.Ordering.{nat_cmp}
use Rattle.std.specs.Prelude.{drop, is_some}
use Rattle.hs_awaiting.specs.declared.wait.Wait.{Wait}
use Rattle.hs_awaiting.specs.declared.wait.Wait.TheVariants as wait
use Rattle.hs_awaiting.specs.declared.waiting.Waiting.{Waiting}
use Rattle.hs_awaiting.specs.Words.{change_if, change_with, each, times}
use Rattle.hs_core_words.specs.Asking.{deliver, with_message}
use Rattle.hs_core_words.specs.Changing.{add_entry_tasks, add_operation, add_task, change_group, change_rejoin, end_operation, note, post, set_catalogue, set_rejoin, set_status, set_tasks, set_viewed}
use Rattle.hs_core_words.specs.declared.event.Event.{Event}
use Rattle.hs_core_words.specs.declared.event.Event.TheVariants as event
use Rattle.hs_core_words.specs.declared.task.Task.{Task}
use Rattle.hs_core_words.specs.Delivering.{handle, take_copy}
use Rattle.hs_core_words.specs.Effects.{after_entry, commit, commit_next, is_for_view, note_enter, note_sweep, reach_view, take_effect, tell_enter, tell_operation}
use Rattle.hs_core_words.specs.Entering.{is_enter_due, propose_due}
use Rattle.hs_core_words.specs.Failing.{commit_rest, fail_disk, go_down, leave}
use Rattle.hs_core_words.specs.Joining.{begin_joining, follow_lead, join, join_if_level, joining_peers}
use Rattle.hs_core_words.specs.Looking.{catalogue_of, first_task, front_of, group_of, home, lead_of, operation_of, shape_of, tasks_of}
use Rattle.hs_core_words.specs.Operating.{add_read, answer, begin_line, busy_line, carry_out, go_on_with, lines_where, propose_entry, resume, resume_where, take_step, wait_for, what_holds}
use Rattle.hs_core_words.specs.Reporting.{on_report, take_report, tell_bytes}
use Rattle.hs_core_words.specs.Seeing.{pointers_for, view_for}
use Rattle.hs_core_words.specs.State.{Core}
use Rattle.hs_core_words.specs.Step.{do_event}
use Rattle.hs_core_words.specs.Views.{begin_view, change_view}
use Rattle.hs_desk.specs.Answers.{answers}
use Rattle.hs_desk.specs.declared.done.Done.{Done}
use Rattle.hs_desk.specs.declared.done.Done.TheVariants as done
use Rattle.hs_desk.specs.declared.job.Job.TheVariants as job
use Rattle.hs_desk.specs.declared.what.What.{What}
use Rattle.hs_desk.specs.declared.what.What.TheVariants as what
use Rattle.hs_entry.specs.declared.entry.Entry.{Entry}
use Rattle.hs_entry.specs.declared.entry.Entry.TheVariants as kind
use Rattle.hs_journal.specs.declared.entry.Who.{Who}
use Rattle.hs_limits.specs.declared.limits.PeerStatus.{PeerStatus}
use Rattle.hs_model.specs.declared.deed.Deed.{Deed}
use Rattle.hs_model.specs.declared.op.Op.{Op}
use Rattle.hs_model.specs.declared.reply.Reply.{Reply}
use Rattle.hs_ops.specs.declared.step.OpStep.{OpStep}
use Rattle.hs_ops.specs.declared.step.OpStep.TheVariants as op_step
use Rattle.hs_ops.specs.Operations.{Operation, after_step, bytes_step, effect_step, go_step, new_operation}
use Rattle.hs_ops.specs.Speaking.{judging_shard}
use Rattle.hs_ops.specs.Views.{OpView}
use Rattle.hs_post.specs.declared.message.Message.{Message}
use Rattle.hs_post.specs.declared.message.Message.TheVariants as message
use Rattle.hs_post.specs.Pool.{Pool, message_at}
use Rattle.hs_rejoin.specs.Rejoin.{Rejoin, follow}
use Rattle.hs_replica.specs.Group.{commit_front, committed, last_number, on_copied, on_emptied, on_have, on_sealed, proposal, propose, renew, take_committed, take_entry}
use Rattle.hs_shard.specs.declared.effect.Effect.{Effect}
use Rattle.hs_shard.specs.Facts.{Catalogue}
use Rattle.hs_tokens.specs.Seats.{Seats}
use Rattle.std.specs.Prelude.{slice_index_or, slice_set}
use Rattle.hs_book.specs.Events.{AreBookSteps, IsBookEvent}
use Rattle.hs_book.specs.Book.{Book}
use Rattle.hs_book.specs.Calls.{is_out_of_memory}
use Rattle.hs_book.specs.History.{History, IsBook, NobodyJoins}
use Rattle.hs_core_words.specs.Changing.{change_pool}
use Rattle.hs_core_words.specs.Step.{begin_event, end_event, keep_entries, line_of, refuse_entries, step}
use Rattle.hs_events.specs.Course.{steps}
use Rattle.hs_events.specs.Due.{Events}
use Rattle.hs_limits.specs.declared.limits.PeerStatus.TheVariants.{Good, Down}
use Rattle.hs_members.specs.Members.{is_joining, status}
use Rattle.hs_post.specs.Pool.{is_empty, restart_numbers}
use Rattle.std.proofs.Common.{ap, subst, sym, ◌∙◌, ◌==◌, ◌&&◌, not, nat_lt, is_none, length}

-- where nobody joins before, nobody does after
pub record Calms (old new : Core) : Type 0 where
  pub calm : NobodyJoins old → NobodyJoins new

-- the statuses are as they were
alike : (c d : Core) → d.members ≡ c.members → Calms c d
alike c d is = record { calm = λ h peer. ap (λ m. is_joining (status peer m)) is ∙ h peer }

both : (a b c : Core) → Calms a b → Calms b c → Calms a c
both a b c f g = record { calm = λ h. g.calm (f.calm h) }

-- another status, with which nobody joins
becomes : (statuses : List PeerStatus) (peer q : ℕ) (new : PeerStatus) → is_joining new ≡ false → is_joining (slice_index_or statuses q Down) ≡ false → is_joining (slice_index_or (slice_set statuses peer new) q Down) ≡ false
becomes [] peer q new is h = h
becomes (s ∷ statuses) zero zero new is h = is
becomes (s ∷ statuses) zero (suc q) new is h = h
becomes (s ∷ statuses) (suc peer) zero new is h = h
becomes (s ∷ statuses) (suc peer) (suc q) new is h = becomes statuses peer q new is h

set_calms : (peer : ℕ) (new : PeerStatus) (c : Core) → is_joining new ≡ false → Calms c (set_status peer new c)
set_calms peer new c is = record { calm = λ h q. becomes c.members.statuses peer q new is (h q) }

same : (c : Core) → Calms c c
same c = record { calm = λ h. h }

catalogue_calms : (shard : ℕ) (x : Catalogue) (c : Core) → Calms c (set_catalogue shard x c)
catalogue_calms shard x c = alike c _ refl

viewed_calms : (shard : ℕ) (x : Bool) (c : Core) → Calms c (set_viewed shard x c)
viewed_calms shard x c = alike c _ refl

tasks_calms : (peer : ℕ) (x : List Task) (c : Core) → Calms c (set_tasks peer x c)
tasks_calms peer x c = alike c _ refl

rejoin_calms : (peer : ℕ) (x : Option Rejoin) (c : Core) → Calms c (set_rejoin peer x c)
rejoin_calms peer x c = alike c _ refl

pool_calms : (x : Pool) (c : Core) → Calms c (record c { pool = x })
pool_calms x c = alike c _ refl

operations_calms : (x : List (ℕ × Waiting)) (c : Core) → Calms c (record c { operations = x })
operations_calms x c = alike c _ refl

sessions_calms : (x : Seats) (c : Core) → Calms c (record c { sessions = x })
sessions_calms x c = alike c _ refl

noted_calms : (of : Who) (did : Deed) (told : Reply) (c : Core) → Calms c (note of did told c)
noted_calms of did told c = alike c _ refl

proposes_calms : (shard : ℕ) (entry : Entry) (c : Core) → Calms c (change_group shard (propose entry) c)
proposes_calms shard entry c = alike c _ refl

takes_calms : (shard peer : ℕ) (entry : Entry) (c : Core) → Calms c (change_group shard (take_entry peer entry) c)
takes_calms shard peer entry c = alike c _ refl

hears_calms : (shard from view sealed : ℕ) (c : Core) → Calms c (change_group shard (on_have from view sealed) c)
hears_calms shard from view sealed c = alike c _ refl

renews_calms : (shard : ℕ) (c : Core) → Calms c (change_group shard (renew c.members) c)
renews_calms shard c = alike c _ refl

commits_calms : (shard : ℕ) (c : Core) → Calms c (change_group shard take_committed c)
commits_calms shard c = alike c _ refl

seals_calms : (shard peer number : ℕ) (c : Core) → Calms c (change_group shard (on_sealed peer number) c)
seals_calms shard peer number c = alike c _ refl

empties_calms : (shard peer : ℕ) (c : Core) → Calms c (change_group shard (on_emptied peer) c)
empties_calms shard peer c = alike c _ refl

copies_calms : (shard peer number : ℕ) (c : Core) → Calms c (change_group shard (on_copied peer number) c)
copies_calms shard peer number c = alike c _ refl

good_calms : (peer : ℕ) (c : Core) → Calms c (set_status peer Good c)
good_calms peer c = set_calms peer Good c refl

down_calms : (peer : ℕ) (c : Core) → Calms c (set_status peer Down c)
down_calms peer c = set_calms peer Down c refl

-- ---- how they are joined

calms_if : (b : Bool) (f : Core → Core) (c : Core) → ((x : Core) → Calms x (f x)) → Calms c (change_if b f c)
calms_if true f c h = h c
calms_if false f c h = same c

calms_with : {B : Type 0} (o : Option B) (f : B → Core → Core) (c : Core) → ((y : B) (x : Core) → Calms x (f y x)) → Calms c (change_with o f c)
calms_with None f c h = same c
calms_with (Some y) f c h = h y c

calms_each : {B : Type 0} (ys : List B) (f : B → Core → Core) (c : Core) → ((y : B) (x : Core) → Calms x (f y x)) → Calms c (each ys f c)
calms_each [] f c h = same c
calms_each (y ∷ ys) f c h = both c (f y c) (each ys f (f y c)) (h y c) (calms_each ys f (f y c) h)

calms_times : (n : ℕ) (f : Core → Core) (c : Core) → ((x : Core) → Calms x (f x)) → Calms c (times n f c)
calms_times zero f c h = same c
calms_times (suc n) f c h = both c (f c) (times n f (f c)) (h c) (calms_times n f (f c) h)

calms_two : (f g : Core → Core) (c : Core) → ((x : Core) → Calms x (f x)) → ((x : Core) → Calms x (g x)) → Calms c (g (f c))
calms_two f g c one two = both c (f c) (g (f c)) (one c) (two (f c))

-- ---- entries and operations

calms_entry_tasks : (peer number : ℕ) (entry : Entry) (c : Core) → Calms c (add_entry_tasks peer number entry c)
calms_entry_tasks peer number entry c =
    calms_two (add_task peer (record { job = job.Append number entry; line = 0 })) (add_task peer (record { job = job.Seal number; line = 0 })) c (λ x. tasks_calms peer _ x) (λ x. tasks_calms peer _ x)

pub calms_propose : (shard : ℕ) (entry : Entry) (c : Core) → Calms c (propose_entry shard entry c)
calms_propose shard entry c =
    let one : Core = change_group shard (propose entry) c in
    let two : Core = post (proposal entry (group_of shard c)) one in
    both c one _ (proposes_calms shard entry c) (both one two _ (pool_calms _ one)
    (calms_with (lead_of shard c) (λ peer. add_entry_tasks peer (last_number (group_of shard c) + 1) entry) two (λ peer x. calms_entry_tasks peer (last_number (group_of shard c) + 1) entry x)))

calms_answer : (line : ℕ) (w : Waiting) (told : Reply) (c : Core) → Calms c (answer line w told c)
calms_answer line w told c =
    let one : Core = end_operation line c in
    both c one _ (operations_calms _ c) (both one (note _ _ told one) _ (noted_calms _ _ told one) (sessions_calms _ (note _ _ told one)))

calms_wait : (line : ℕ) (w : Waiting) (what : Wait) (c : Core) → Calms c (wait_for line w what c)
calms_wait line w what c = operations_calms (set_value (is_at (nat_cmp line)) c.operations (record w { wait = what })) c

calms_carry : (line : ℕ) (w : Waiting) (taken : OpStep) (c : Core) → Calms c (carry_out line w taken c)
calms_carry line w (op_step.Answer told) c = calms_answer line w told c
calms_carry line w (op_step.Propose entry) c = both c _ _ (calms_wait line w _ c) (calms_propose w.shard entry _)
calms_carry line w (op_step.Compare number) c = both c _ _ (calms_wait line w _ c) (calms_with (lead_of w.shard c) (add_read number line) _ (λ peer x. tasks_calms peer _ x))
calms_carry line w op_step.Wait c = calms_wait line w (what_holds w c) c

calms_take_step : (line : ℕ) (w : Waiting) (taken : OpStep) (c : Core) → Calms c (take_step line w taken c)
calms_take_step line w taken c = calms_carry line (record w { operation = after_step taken w.operation }) taken c

calms_go_on : (next : OpView → Operation → OpStep) (line : ℕ) (c : Core) → Calms c (go_on_with next line c)
calms_go_on next line c = calms_with (operation_of line c) (λ w. take_step line w (next (view_for w.shard w.operation.op c) w.operation)) c (λ w x. calms_take_step line w (next (view_for w.shard w.operation.op c) w.operation) x)

calms_resume_where : (shard : ℕ) (test : Waiting → Bool) (c : Core) → Calms c (resume_where shard test c)
calms_resume_where shard test c = calms_each (lines_where shard test c) resume c (λ line x. calms_go_on go_step line x)

-- ---- entries that take effect

pub calms_due : (shard : ℕ) (c : Core) → Calms c (propose_due shard c)
calms_due shard c = calms_if (is_enter_due shard c) (propose_entry shard (kind.Enter 0 ((catalogue_of shard c).epoch + 1))) c (λ x. calms_propose shard _ x)

calms_sweep : (shard removed : ℕ) (c : Core) → Calms c (note_sweep shard removed c)
calms_sweep shard removed c = both c _ _ (noted_calms _ _ _ c) (calms_if _ (note _ _ _) _ (λ x. noted_calms _ _ _ x))

calms_enter : (shard : ℕ) (did : What) (c : Core) → Calms c (note_enter shard did c)
calms_enter shard what.Nothing c = same c
calms_enter shard (what.Viewed view) c = same c
calms_enter shard what.Stored c = same c
calms_enter shard what.Marked c = same c
calms_enter shard what.Again c = same c
calms_enter shard what.Rooted c = same c
calms_enter shard what.Dropped c = same c
calms_enter shard (what.Entered epoch) c = noted_calms _ _ _ c
calms_enter shard what.Refused c = same c

calms_tell : (line : ℕ) (did : What) (c : Core) → Calms c (tell_operation line did c)
calms_tell line did c = calms_go_on (λ v o. effect_step v did o) line c

calms_tell_enter : (shard line : ℕ) (did : What) (c : Core) → Calms c (tell_enter shard line did c)
calms_tell_enter shard line did c = go (is_some (operation_of line c)) refl
  where
    go : (b : Bool) → is_some (operation_of line c) ≡ b → Calms c (tell_enter shard line did c)
    go false e = rw e (calms_enter shard did c)
    go true e = rw e (calms_tell line did c)

calms_view : (shard view : ℕ) (c : Core) → Calms c (reach_view shard view c)
calms_view shard view c = calms_if _ (λ x. resume_where shard is_for_view (set_viewed shard true x)) c (λ x. both x _ _ (viewed_calms shard true x) (calms_resume_where shard is_for_view _))

calms_after : (shard : ℕ) (entry : Entry) (effect : Effect) (c : Core) → Calms c (after_entry shard entry effect c)
calms_after shard (kind.View view) effect c = calms_view shard view c
calms_after shard (kind.Block line least bytes) effect c = calms_tell line effect.what c
calms_after shard (kind.Mark line least block a) effect c = calms_tell line effect.what c
calms_after shard (kind.Root line held a key) effect c = calms_tell line effect.what c
calms_after shard (kind.Drop line key) effect c = calms_tell line effect.what c
calms_after shard (kind.Enter line epoch) effect c = calms_tell_enter shard line effect.what c
calms_after shard (kind.Got from epoch round total deltas) effect c = both c _ _ (calms_with effect.removed (note_sweep shard) c (λ removed x. calms_sweep shard removed x)) (calms_due shard _)
calms_after shard (kind.Base view epoch swept round frames) effect c = same c
calms_after shard (kind.KeptBlock born mark flags count bytes) effect c = same c
calms_after shard (kind.KeptRoot created dropped counted address key) effect c = same c
calms_after shard (kind.KeptRound way other epoch round total deltas) effect c = same c

calms_effect : (shard : ℕ) (entry : Entry) (c : Core) → Calms c (take_effect shard entry c)
calms_effect shard entry c = both c _ _ (commits_calms shard c) (both _ _ _ (catalogue_calms shard _ _) (both _ _ _ (pool_calms _ _) (both _ _ _ (calms_after shard entry _ _) (calms_resume_where shard _ _))))

pub calms_commit : (shard : ℕ) (c : Core) → Calms c (commit shard c)
calms_commit shard c = calms_times (commit_front (group_of shard c) - front_of shard c) (commit_next shard) c (λ x. calms_with (committed (group_of shard x)) (λ (e : ℕ × Entry). take_effect shard e.1) x (λ e y. calms_effect shard e.1 y))

-- ---- views, joining and failing

calms_begin_view : (shard : ℕ) (c : Core) → Calms c (begin_view shard c)
calms_begin_view shard c = both c _ _ (viewed_calms shard false c) (both _ _ _ (renews_calms shard (set_viewed shard false c)) (both _ _ _ (operations_calms _ _) (both _ _ _ (pool_calms _ _) (calms_propose shard _ _))))

pub calms_change_view : (shard : ℕ) (c : Core) → Calms c (change_view shard c)
calms_change_view shard c = calms_if _ (begin_view shard) c (λ x. calms_begin_view shard x)

calms_begin_joining : (peer : ℕ) (c : Core) → Calms c (begin_joining peer c)
calms_begin_joining peer c = rejoin_calms peer _ c

pub calms_follow : (shard : ℕ) (c : Core) → Calms c (follow_lead shard c)
calms_follow shard c =
    calms_with (lead_of shard c) (λ lead x. each (joining_peers shard x) (λ peer. change_rejoin peer (follow lead)) x) c (λ lead x. calms_each (joining_peers shard x) (λ peer. change_rejoin peer (follow lead)) x (λ peer y. rejoin_calms peer _ y))

calms_join : (peer : ℕ) (c : Core) → Calms c (join peer c)
calms_join peer c = both c _ _ (good_calms peer c) (both _ _ _ (rejoin_calms peer _ _) (both _ _ _ (calms_change_view _ _) (both _ _ _ (calms_follow _ _) (calms_commit _ _))))

pub calms_join_if : (peer : ℕ) (c : Core) → Calms c (join_if_level peer c)
calms_join_if peer c = calms_if _ (join peer) c (λ x. calms_join peer x)

calms_leave : (peer : ℕ) (c : Core) → Calms c (leave peer c)
calms_leave peer c = both c _ _ (down_calms peer c) (both _ _ _ (tasks_calms peer _ _) (both _ _ _ (rejoin_calms peer _ _) (pool_calms _ _)))

calms_rest : (shard : ℕ) (c : Core) → Calms c (commit_rest shard c)
calms_rest shard c = calms_if _ (commit shard) c (λ x. calms_commit shard x)

pub calms_down : (peer : ℕ) (c : Core) → Calms c (go_down peer c)
calms_down peer c = both c _ _ (calms_leave peer c) (both _ _ _ (calms_if _ (change_view (home peer c)) _ (λ x. calms_change_view _ x))
    (both _ _ _ (calms_if _ (λ x. each (joining_peers (home peer c) x) begin_joining x) _ (λ x. calms_each (joining_peers (home peer c) x) begin_joining x (λ p y. calms_begin_joining p y)))
    (calms_if _ (commit_rest (home peer c)) _ (λ x. calms_rest _ x))))

pub calms_fail_disk : (peer : ℕ) (c : Core) → Calms c (fail_disk peer c)
calms_fail_disk peer c = both c _ _ (noted_calms _ _ _ c) (calms_down peer _)

-- ---- messages

calms_take_copy : (shard peer number : ℕ) (entry : Entry) (c : Core) → Calms c (take_copy shard peer number entry c)
calms_take_copy shard peer number entry c = both c _ _ (takes_calms shard peer entry c) (both _ _ _ (calms_entry_tasks peer number entry _) (calms_follow shard _))

calms_handle : (m : Message) (c : Core) → Calms c (handle m c)
calms_handle (message.Copy shard to view number entry) c = calms_if _ (take_copy shard to number entry) c (λ x. calms_take_copy shard to number entry x)
calms_handle (message.Have shard from to view sealed) c = calms_if _ (λ x. commit shard (change_group shard (on_have from view sealed) x)) c (λ x. both x _ _ (hears_calms shard from view sealed x) (calms_commit shard _))
calms_handle (message.Round from to epoch round total deltas) c = calms_if _ (propose_entry to (kind.Got from epoch round total deltas)) c (λ x. calms_propose to _ x)

calms_deliver : (number : ℕ) (m : Message) (c : Core) → Calms c (deliver number m c)
calms_deliver number m c = both c _ _ (pool_calms _ c) (calms_handle m _)

calms_message : (line number : ℕ) (f : Message → Core → Core) (c : Core) → ((m : Message) (x : Core) → Calms x (f m x)) → Calms c (with_message line number f c)
calms_message line number f c h = go (message_at number c.pool) refl
  where
    go : (o : Option Message) → message_at number c.pool ≡ o → Calms c (with_message line number f c)
    go None e = rw e (noted_calms _ _ _ c)
    go (Some m) e = rw e (h m c)

-- ---- lines of peers

-- ---- events: a client's line but for its number, and those that are no reports

pub calms_begin : (line : ℕ) (o : Op) (c : Core) → Calms (record c { progress = record c.progress { last_line = line } }) (begin_line line o c)
calms_begin line o c =
    let begun : Core = record c { progress = record c.progress { last_line = line } } in
    let shard : ℕ = judging_shard (shape_of c).shards c.sessions o in
    let w : Waiting = record { operation = new_operation line o; shard = shard; wait = wait.View } in
    let v : OpView = record (view_for shard o begun) { busy = busy_line o c } in
    both begun (add_operation line w begun) _ (operations_calms (insert_entry nat_cmp c.operations line w) begun) (calms_take_step line w (go_step v w.operation) (add_operation line w begun))

pub calms_bytes : (line number : ℕ) (bytes : Option (List ℕ)) (c : Core) → Calms c (tell_bytes line number bytes c)
calms_bytes line number bytes c = calms_with (operation_of line c) _ c (λ w x. calms_if _ _ x (λ y. calms_go_on (λ v o. bytes_step v bytes (pointers_for w.shard w.operation.op y) o) line y))

pub calms_delivered : (line number : ℕ) (c : Core) → Calms c (with_message line number (deliver number) c)
calms_delivered line number c = calms_message line number (deliver number) c (λ m x. calms_deliver number m x)

-- ---- reports

calms_take_report : (peer line : ℕ) (d : Done) (c : Core) → Calms c (take_report peer line d c)
calms_take_report peer line (done.Stored number) c = same c
calms_take_report peer line (done.Sealed number) c = both c _ _ (pool_calms _ c) (both _ _ _ (seals_calms _ peer number _) (calms_commit _ _))
calms_take_report peer line (done.Bytes number bytes) c = calms_bytes line number (Some bytes) c
calms_take_report peer line (done.Gone number) c = calms_bytes line number None c
calms_take_report peer line done.Emptied c = both c _ _ (rejoin_calms peer _ c) (both _ _ _ (empties_calms _ peer _) (calms_join_if peer _))
calms_take_report peer line (done.Copied number) c = both c _ _ (rejoin_calms peer _ c) (both _ _ _ (copies_calms _ peer number _) (calms_join_if peer _))
calms_take_report peer line (done.Stepped switched) c = same c
calms_take_report peer line (done.Failed disk) c = calms_fail_disk disk c

calms_report : (peer : ℕ) (d : Done) (c : Core) → Calms c (on_report peer d c)
calms_report peer d c = go (first_task peer c) refl
  where
    taken : (task : Task) → Calms c (take_report peer task.line d (set_tasks peer (drop 1 (tasks_of peer c)) c))
    taken task = both c _ _ (tasks_calms peer _ c) (calms_take_report peer task.line d _)

    go : (o : Option Task) → first_task peer c ≡ o → Calms c (on_report peer d c)
    go None e = rw e (same c)
    go (Some task) e = answered (answers peer task.job d) refl
      where
        answered : (b : Bool) → answers peer task.job d ≡ b → Calms c (on_report peer d c)
        answered true f = rw (e, f) (taken task)
        answered false f = rw (e, f) (same c)

-- ---- an event

begins_so : (b : Bool) (at line : ℕ) (c : Core) → Calms c (record (change_if b (change_pool restart_numbers) c) { moment = at; progress = record c.progress { event_line = line } })
begins_so true at line c = alike c _ refl
begins_so false at line c = alike c _ refl

begins : (line at : ℕ) (c : Core) → Calms c (begin_event line at c)
begins line at c = begins_so ((c.progress.event_line == 0 && not (line == 0)) && is_empty c.pool) at _ c

ends : (c : Core) → Calms c (end_event c)
ends c = go (nat_lt c.limits.ops (length c.journal + length c.entries)) refl
  where
    go : (b : Bool) → nat_lt c.limits.ops (length c.journal + length c.entries) ≡ b → Calms c (end_event c)
    go true e = rw e (alike c (refuse_entries c) refl)
    go false e = rw e (alike c (keep_entries c) refl)

line_calms : (line : ℕ) (o : Op) (c : Core) → Calms c (begin_line line o c)
line_calms line o c = both c (record c { progress = record c.progress { last_line = line } }) (begin_line line o c) (alike c _ refl) (calms_begin line o c)

-- what an event of a book does
event_calms : (e : Event) (c before : Core) → IsBookEvent before e → Calms c (do_event e c)
event_calms (event.Line line o) c before may = line_calms line o c
event_calms (event.Report peer d) c before may = calms_report peer d c
event_calms (event.Turn line peer) c before may = absurd may
event_calms (event.Deliver line number) c before may = calms_delivered line number c
event_calms (event.Lose line number) c before may = absurd may
event_calms (event.Repeat line number) c before may = absurd may
event_calms (event.Nudge line peer) c before may = absurd may
event_calms (event.Fail line peer) c before may = absurd may
event_calms (event.Start line peer) c before may = absurd may

step_calms : (e : Event) (at : ℕ) (c : Core) → IsBookEvent c e → Calms c (step e at c)
step_calms e at c may = go (is_none c.ended) refl
  where
    begun : Core
    begun = begin_event (line_of e) at c

    go : (b : Bool) → is_none c.ended ≡ b → Calms c (step e at c)
    go true h = rw h (both c begun _ (begins (line_of e) at c) (both begun (do_event e begun) _ (event_calms e begun c may) (ends (do_event e begun))))
    go false h = rw h (same c)

-- nobody joins behind the events of a book, where nobody did before
pub nobody_joins : (core : Core) (es : Events) → AreBookSteps core es → NobodyJoins core → NobodyJoins (steps core es)
nobody_joins core [] may h = h
nobody_joins core (e ∷ es) may h = nobody_joins (step e.0 e.1 core) es may.1 ((step_calms e.0 e.1 core may.0.may).calm h)

pub still_calm : (start : Core) (book : Book) → IsBook start book → is_out_of_memory book.ended ≡ false → NobodyJoins book.core
still_calm start book h none =
    let it : History start book = h none in
    subst NobodyJoins (sym it.led) (nobody_joins start it.events it.may it.calm)
