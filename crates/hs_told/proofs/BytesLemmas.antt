-- Whatever bytes a report tells, sessions and catalogues are afterwards the same.
use Rattle.std.proofs.Common.{◌≡◌, ℕ, ◌+◌, Bool, true, false, not, List, Option, Some, None, is_none, length, nat_lt, refl, sym, ap, ◌∙◌}
use Rattle.std.specs.Option.{option_map_or}
use Rattle.std.specs.Prelude.{drop, if◌then◌else◌}
use Rattle.hs_awaiting.specs.declared.wait.Wait.TheVariants as wait
use Rattle.hs_awaiting.specs.declared.waiting.Waiting.{Waiting}
use Rattle.hs_awaiting.specs.Words.{change_if, change_with}
use Rattle.hs_core_words.specs.declared.event.Event.TheVariants as event
use Rattle.hs_core_words.specs.declared.task.Task.{Task}
use Rattle.hs_core_words.specs.Changing.{add_entry_tasks, change_group, post, put_operation, set_tasks}
use Rattle.hs_core_words.specs.Looking.{first_task, group_of, lead_of, operation_of, tasks_of}
use Rattle.hs_core_words.specs.Operating.{add_read, go_on_with, take_step}
use Rattle.hs_core_words.specs.Reporting.{is_reading, on_report, take_report, tell_bytes}
use Rattle.hs_core_words.specs.Seeing.{pointers_for, view_for}
use Rattle.hs_core_words.specs.State.{Core}
use Rattle.hs_core_words.specs.Step.{begin_event, end_event, keep_entries, refuse_entries, run_event, step}
use Rattle.hs_desk.specs.Answers.{is_read_of}
use Rattle.hs_desk.specs.declared.done.Done.TheVariants as done
use Rattle.hs_limits.specs.declared.address.Address.{Address}
use Rattle.hs_limits.specs.declared.address.Held.{Held}
use Rattle.hs_model.specs.declared.op.Op.{Op}
use Rattle.hs_model.specs.declared.op.Op.TheVariants as op
use Rattle.hs_model.specs.declared.reply.Reply.{Reply}
use Rattle.hs_model.specs.declared.reply.Reply.TheVariants as reply
use Rattle.hs_ops.specs.declared.step.OpStep.{OpStep}
use Rattle.hs_ops.specs.declared.step.OpStep.TheVariants.{Answer, Compare, Propose, Wait}
use Rattle.hs_ops.specs.Answers.{gained, seats_after}
use Rattle.hs_ops.specs.Going.{compared, go, is_reported, is_same_block, mark_entry, on_bytes}
use Rattle.hs_ops.specs.Operations.{Operation, after_step, bytes_step, wanted_number}
use Rattle.hs_ops.specs.Refusals.{refusal_of}
use Rattle.hs_ops.specs.Speaking.{asked_block}
use Rattle.hs_ops.specs.Views.{OpView}
use Rattle.hs_replica.specs.Group.{last_number, proposal, propose}
use Rattle.hs_shard.specs.Facts.{Catalogue}
use Rattle.hs_tokens.specs.Seats.{Seats}

-- the sessions and the catalogues, of which the plain store is made
pub record Kept : Type 0 where
  pub sessions : Seats
  pub catalogues : List Catalogue

abbrev pub kept_of : Core → Kept
kept_of core = record { sessions = core.sessions; catalogues = core.catalogues }

-- the sessions after a step
abbrev seats_by : OpStep → List Held → Op → Seats → Seats
seats_by (Answer r) helds o seats = seats_after helds o r seats
seats_by (Propose entry) helds o seats = seats
seats_by (Compare number) helds o seats = seats
seats_by Wait helds o seats = seats

kept_with : {B : Type 0} (o : Option B) (f : B → Core → Core) (c : Core) → ((y : B) (x : Core) → kept_of (f y x) ≡ kept_of x) → kept_of (change_with o f c) ≡ kept_of c
kept_with None f c h = refl
kept_with (Some y) f c h = h y c

-- what a step leaves of them
kept_step : (line : ℕ) (w : Waiting) (s : OpStep) (c : Core)
    → kept_of (take_step line w s c) ≡ record { sessions = seats_by s (gained (view_for w.shard w.operation.op c) (pointers_for w.shard w.operation.op c) w.operation.op) w.operation.op c.sessions; catalogues = c.catalogues }
kept_step line w (Answer r) c = refl
kept_step line w (Propose entry) c =
    let u : Waiting = record w { operation = after_step (Propose entry) w.operation; wait = wait.Entry (last_number (group_of w.shard c) + 1) } in
    let one : Core = put_operation line u c in
    kept_with (lead_of w.shard one) (λ peer. add_entry_tasks peer (last_number (group_of w.shard one) + 1) entry) (post (proposal entry (group_of w.shard one)) (change_group w.shard (propose entry) one)) (λ peer x. refl)
kept_step line w (Compare number) c =
    let u : Waiting = record w { operation = after_step (Compare number) w.operation; wait = wait.Bytes number } in
    kept_with (lead_of w.shard c) (add_read number line) (put_operation line u c) (λ peer x. refl)
kept_step line w Wait c = refl

-- ---- the step at some bytes

stays_if : (helds : List Held) (o : Op) (seats : Seats) (same : Bool) (s : OpStep) → seats_by s helds o seats ≡ seats → seats_by (if same then s else Answer reply.Collision) helds o seats ≡ seats
unfolding seats_after
stays_if helds o seats true s e = e
stays_if helds o seats false s e = refl

compared_same : (v : OpView) (line number : ℕ) (one two : List ℕ) (pointers : List Address) (o : Op) (helds : List Held) (seats : Seats)
    → seats_by (compared v line (record { number = number; bytes = Some one; pointers = pointers }) o) helds o seats ≡ seats_by (compared v line (record { number = number; bytes = Some two; pointers = pointers }) o) helds o seats
unfolding compared seats_after
compared_same v line number one two pointers (op.Write name payload handles address) helds seats =
    by_report (is_reported v number (Some one)) (is_same_block (asked_block v.seats name payload handles) (Some one) pointers) (is_same_block (asked_block v.seats name payload handles) (Some two) pointers)
  where
    o : Op
    o = op.Write name payload handles address

    mark : OpStep
    mark = Propose (mark_entry v line number name handles address)

    by_report : (told same other : Bool) → seats_by (if not told then go v line o else (if same then mark else Answer reply.Collision)) helds o seats
        ≡ seats_by (if not told then go v line o else (if other then mark else Answer reply.Collision)) helds o seats
    by_report false same other = refl
    by_report true same other = stays_if helds o seats same mark refl ∙ sym (stays_if helds o seats other mark refl)
compared_same v line number one two pointers (op.Read name handle) helds seats = refl
compared_same v line number one two pointers (op.Open name) helds seats = refl
compared_same v line number one two pointers (op.Close name) helds seats = refl
compared_same v line number one two pointers (op.Look name key) helds seats = refl
compared_same v line number one two pointers (op.Root name key handle) helds seats = refl
compared_same v line number one two pointers (op.Drop key) helds seats = refl
compared_same v line number one two pointers (op.Forget name handle) helds seats = refl
compared_same v line number one two pointers (op.Name name handle) helds seats = refl
compared_same v line number one two pointers op.Delete helds seats = refl
compared_same v line number one two pointers op.Stat helds seats = refl

bytes_same : (v : OpView) (one two : List ℕ) (pointers : List Address) (operation : Operation) (helds : List Held) (seats : Seats)
    → seats_by (bytes_step v (Some one) pointers operation) helds operation.op seats ≡ seats_by (bytes_step v (Some two) pointers operation) helds operation.op seats
unfolding on_bytes
bytes_same v one two pointers operation helds seats = by_refusal (refusal_of v operation.op)
  where
    by_refusal : (x : Option Reply) → seats_by (option_map_or Answer x (compared v operation.line (record { number = wanted_number operation.stage; bytes = Some one; pointers = pointers }) operation.op)) helds operation.op seats
        ≡ seats_by (option_map_or Answer x (compared v operation.line (record { number = wanted_number operation.stage; bytes = Some two; pointers = pointers }) operation.op)) helds operation.op seats
    by_refusal None = compared_same v operation.line (wanted_number operation.stage) one two pointers operation.op helds seats
    by_refusal (Some r) = refl

-- ---- the report

go_on_same : (line : ℕ) (one two : List ℕ) (pointers : List Address) (c : Core)
    → kept_of (go_on_with (λ v o. bytes_step v (Some one) pointers o) line c) ≡ kept_of (go_on_with (λ v o. bytes_step v (Some two) pointers o) line c)
go_on_same line one two pointers c = by_operation (operation_of line c)
  where
    by_operation : (x : Option Waiting) → kept_of (change_with x (λ w. take_step line w (bytes_step (view_for w.shard w.operation.op c) (Some one) pointers w.operation)) c)
        ≡ kept_of (change_with x (λ w. take_step line w (bytes_step (view_for w.shard w.operation.op c) (Some two) pointers w.operation)) c)
    by_operation None = refl
    by_operation (Some w) =
        let v : OpView = view_for w.shard w.operation.op c in
        let helds : List Held = gained v (pointers_for w.shard w.operation.op c) w.operation.op in
        kept_step line w (bytes_step v (Some one) pointers w.operation) c
        ∙ ap (λ (seats : Seats). record { sessions = seats; catalogues = c.catalogues }) (bytes_same v one two pointers w.operation helds c.sessions)
        ∙ sym (kept_step line w (bytes_step v (Some two) pointers w.operation) c)

tell_same : (line number : ℕ) (one two : List ℕ) (c : Core) → kept_of (tell_bytes line number (Some one) c) ≡ kept_of (tell_bytes line number (Some two) c)
tell_same line number one two c = by_operation (operation_of line c)
  where
    by_test : (w : Waiting) (b : Bool) → kept_of (change_if b (λ x. go_on_with (λ v o. bytes_step v (Some one) (pointers_for w.shard w.operation.op x) o) line x) c)
        ≡ kept_of (change_if b (λ x. go_on_with (λ v o. bytes_step v (Some two) (pointers_for w.shard w.operation.op x) o) line x) c)
    by_test w true = go_on_same line one two (pointers_for w.shard w.operation.op c) c
    by_test w false = refl

    by_operation : (x : Option Waiting) → kept_of (change_with x (λ w. change_if (is_reading number w.wait) (λ x. go_on_with (λ v o. bytes_step v (Some one) (pointers_for w.shard w.operation.op x) o) line x)) c)
        ≡ kept_of (change_with x (λ w. change_if (is_reading number w.wait) (λ x. go_on_with (λ v o. bytes_step v (Some two) (pointers_for w.shard w.operation.op x) o) line x)) c)
    by_operation None = refl
    by_operation (Some w) = by_test w (is_reading number w.wait)

report_same : (peer number : ℕ) (one two : List ℕ) (c : Core) → kept_of (on_report peer (done.Bytes number one) c) ≡ kept_of (on_report peer (done.Bytes number two) c)
report_same peer number one two c = by_task (first_task peer c)
  where
    taken : List ℕ → Task → Core → Core
    taken bytes task x = take_report peer task.line (done.Bytes number bytes) (set_tasks peer (drop 1 (tasks_of peer x)) x)

    by_test : (task : Task) (b : Bool) → kept_of (change_if b (taken one task) c) ≡ kept_of (change_if b (taken two task) c)
    by_test task true = tell_same task.line number one two (set_tasks peer (drop 1 (tasks_of peer c)) c)
    by_test task false = refl

    by_task : (x : Option Task) → kept_of (change_with x (λ task. change_if (is_read_of number task.job) (taken one task)) c) ≡ kept_of (change_with x (λ task. change_if (is_read_of number task.job) (taken two task)) c)
    by_task None = refl
    by_task (Some task) = by_test task (is_read_of number task.job)

-- ---- the event

ended_kept : (c : Core) → kept_of (end_event c) ≡ kept_of c
ended_kept c = by_room (nat_lt c.limits.ops (length c.journal + length c.entries))
  where
    by_room : (b : Bool) → kept_of (if b then refuse_entries c else keep_entries c) ≡ kept_of c
    by_room true = refl
    by_room false = refl

run_same : (peer number moment : ℕ) (one two : List ℕ) (c : Core) → kept_of (run_event (event.Report peer (done.Bytes number one)) moment c) ≡ kept_of (run_event (event.Report peer (done.Bytes number two)) moment c)
run_same peer number moment one two c =
    ended_kept (on_report peer (done.Bytes number one) (begin_event 0 moment c)) ∙ report_same peer number one two (begin_event 0 moment c)
    ∙ sym (ended_kept (on_report peer (done.Bytes number two) (begin_event 0 moment c)))

pub step_same : (peer number moment : ℕ) (one two : List ℕ) (c : Core) → kept_of (step (event.Report peer (done.Bytes number one)) moment c) ≡ kept_of (step (event.Report peer (done.Bytes number two)) moment c)
step_same peer number moment one two c = by_end (is_none c.ended)
  where
    by_end : (b : Bool) → kept_of (change_if b (run_event (event.Report peer (done.Bytes number one)) moment) c) ≡ kept_of (change_if b (run_event (event.Report peer (done.Bytes number two)) moment) c)
    by_end true = run_same peer number moment one two c
    by_end false = refl
