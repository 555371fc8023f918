-- Operations: each step of one, and the order in which they go on.
use Rattle.std.specs.List.{find, filter}
use Rattle.std.specs.Option.{option_and_then, option_map}
use Rattle.std.specs.Prelude.{ℕ, ◌+◌, ◌==◌, ◌&&◌, Bool, false, not, List, Option, Some, map, slice_index_or, if◌then◌else◌}
use Rattle.hs_awaiting.specs.declared.wait.Wait.{Wait}
use Rattle.hs_awaiting.specs.declared.wait.Wait.TheVariants as wait
use Rattle.hs_awaiting.specs.declared.waiting.Waiting.{Waiting}
use Rattle.hs_awaiting.specs.Kinds.{is_of}
use Rattle.hs_awaiting.specs.Words.{change_with, each, ◌▸◌}
use Rattle.hs_core_words.specs.Changing.{add_entry_tasks, add_operation, add_task, change_group, end_operation, note, post, put_operation}
use Rattle.hs_core_words.specs.Looking.{group_of, lead_of, operation_of, shape_of}
use Rattle.hs_core_words.specs.Pending.{is_coming}
use Rattle.hs_core_words.specs.Seeing.{pointers_for, view_for}
use Rattle.hs_core_words.specs.State.{Core}
use Rattle.hs_desk.specs.declared.job.Job.TheVariants as job
use Rattle.hs_entry.specs.declared.entry.Entry.{Entry}
use Rattle.hs_journal.specs.declared.entry.Who.TheVariants as who
use Rattle.hs_journal.specs.Order.{session_of}
use Rattle.hs_limits.specs.declared.address.Held.{Held}
use Rattle.hs_model.specs.declared.op.Op.{Op}
use Rattle.hs_model.specs.declared.reply.Reply.{Reply}
use Rattle.hs_ops.specs.declared.step.OpStep.{OpStep}
use Rattle.hs_ops.specs.declared.step.OpStep.TheVariants as step
use Rattle.hs_ops.specs.Speaking.{judging_shard, wanted_address}
use Rattle.hs_ops.specs.Answers.{deed_of, gained, seats_after}
use Rattle.hs_ops.specs.Views.{OpView}
use Rattle.hs_ops.specs.Operations.{Operation, after_step, go_step, new_operation}
use Rattle.hs_replica.specs.Group.{last_number, proposal, propose}

-- ---- one step

-- an entry is proposed: the lead's list has it, and every other good peer is sent a Copy
abbrev pub propose_entry : ℕ → Entry → Core → Core
propose_entry shard entry core =
    core ▸ change_group shard (propose entry)
    ▸ post (proposal entry (group_of shard core))
    ▸ change_with (lead_of shard core) (λ peer. add_entry_tasks peer (last_number (group_of shard core) + 1) entry)

-- an operation is answered: it is over, the journal tells it, and its session changes as the reply says
abbrev pub answer : ℕ → Waiting → Reply → Core → Core
answer line w reply core =
    let o : Op = w.operation.op in
    let gains : List Held = gained (view_for w.shard o core) (pointers_for w.shard o core) o in
    record (core ▸ end_operation line ▸ note (who.Line line) (deed_of core.sessions o reply) reply) {
      sessions = seats_after gains o reply core.sessions;
    }

-- an operation waits
abbrev pub wait_for : ℕ → Waiting → Wait → Core → Core
wait_for line w what core = put_operation line (record w { wait = what }) core

-- for what: the current view's View, the Block of its address, or room
abbrev pub what_holds : Waiting → Core → Wait
what_holds w core =
    if not (slice_index_or core.progress.viewed w.shard false) then wait.View else
    if is_coming w.shard (wanted_address core.sessions w.operation.op) core then wait.Address else wait.Room

-- a Read of an entry for the operation of a line is put into a peer's queue
abbrev pub add_read : ℕ → ℕ → ℕ → Core → Core
add_read number line peer core = add_task peer (record { job = job.Read number; line = line }) core

-- what a step asks for is done
abbrev pub carry_out : ℕ → Waiting → OpStep → Core → Core
carry_out line w (step.Answer reply) core = answer line w reply core
carry_out line w (step.Propose entry) core =
    core ▸ wait_for line w (wait.Entry (last_number (group_of w.shard core) + 1)) ▸ propose_entry w.shard entry
carry_out line w (step.Compare number) core =
    core ▸ wait_for line w (wait.Bytes number) ▸ change_with (lead_of w.shard core) (add_read number line)
carry_out line w step.Wait core = wait_for line w (what_holds w core) core

-- the operation is where the step leaves it
abbrev pub take_step : ℕ → Waiting → OpStep → Core → Core
take_step line w taken core = carry_out line (record w { operation = after_step taken w.operation }) taken core

-- ---- the next steps

-- the operation of a line goes on, where it has no answer: `next` judges it by what it sees
abbrev pub go_on_with : (OpView → Operation → OpStep) → ℕ → Core → Core
go_on_with next line core =
    core ▸ change_with (operation_of line core) (λ w. take_step line w (next (view_for w.shard w.operation.op core) w.operation))

abbrev pub resume : ℕ → Core → Core
resume line core = go_on_with go_step line core

-- the lines of a shard's operations that pass a test, ascending
abbrev pub lines_where : ℕ → (Waiting → Bool) → Core → List ℕ
lines_where shard test core = map (λ e. e.0) (filter (λ e. e.1.shard == shard && test e.1) core.operations)

-- they go on in this order
abbrev pub resume_where : ℕ → (Waiting → Bool) → Core → Core
resume_where shard test core = core ▸ each (lines_where shard test core) resume

-- ---- a client's line

-- the line of a session's operation that has no answer
abbrev pub busy_line : Op → Core → Option ℕ
busy_line o core = option_and_then line_in (session_of (Some o))
  where
    line_in : List ℕ → Option ℕ
    line_in name = option_map (λ e. e.0) (find (λ e. is_of name e.1) core.operations)

-- an operation is begun: it is answered at once, or it waits for a job, an entry or a view
abbrev pub begin_line : ℕ → Op → Core → Core
begin_line line o core =
    let begun : Core = record core { progress = record core.progress { last_line = line } } in
    let shard : ℕ = judging_shard (shape_of core).shards core.sessions o in
    let w : Waiting = record { operation = new_operation line o; shard = shard; wait = wait.View } in
    let v : OpView = record (view_for shard o begun) { busy = busy_line o core } in
    begun ▸ add_operation line w ▸ take_step line w (go_step v w.operation)
