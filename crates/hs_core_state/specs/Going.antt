-- How an operation goes on, in the parts in which a body does it: for private clauses.
use Rattle.std.specs.Option.{option_and_then, option_map, option_map_or}
use Rattle.std.specs.Prelude.{ℕ, ◌+◌, ◌||◌, Bool, false, not, List, [], ◌∷◌, Option, count_by, length, map, slice_index_or, sum_by, if◌then◌else◌}
use Rattle.hs_awaiting.specs.declared.next.Next.{Next}
use Rattle.hs_awaiting.specs.declared.wait.Wait.{Wait}
use Rattle.hs_awaiting.specs.declared.wait.Wait.TheVariants as wait
use Rattle.hs_awaiting.specs.declared.waiting.Waiting.{Waiting}
use Rattle.hs_awaiting.specs.Going.{next_step}
use Rattle.hs_awaiting.specs.Kinds.{puts_root, writes_block}
use Rattle.hs_awaiting.specs.Words.{change_with, ◌▸◌}
use Rattle.hs_core_state.specs.declared.aim.Aim.{Aim}
use Rattle.hs_core_state.specs.declared.sight.Sight.{Sight}
use Rattle.hs_core_words.specs.Changing.{add_operation, end_operation, note}
use Rattle.hs_core_words.specs.Looking.{catalogue_of, group_of, lead_of, operation_of}
use Rattle.hs_core_words.specs.Operating.{add_read, propose_entry, take_step, wait_for}
use Rattle.hs_core_words.specs.Pending.{has_block_room, has_root_room, is_block, is_coming, is_root}
use Rattle.hs_core_words.specs.Seeing.{empty_view, pointers_for, view_for}
use Rattle.hs_core_words.specs.State.{Core}
use Rattle.hs_journal.specs.declared.entry.Who.TheVariants as who
use Rattle.hs_limits.specs.declared.address.Held.{Held}
use Rattle.hs_limits.specs.declared.limits.Limits.{Limits}
use Rattle.hs_model.specs.declared.deed.Deed.{Deed}
use Rattle.hs_model.specs.declared.deed.Deed.TheVariants as deed
use Rattle.hs_model.specs.declared.op.Op.{Op}
use Rattle.hs_model.specs.declared.reply.Reply.{Reply}
use Rattle.hs_ops.specs.declared.step.OpStep.{OpStep}
use Rattle.hs_ops.specs.declared.step.OpStep.TheVariants as step
use Rattle.hs_ops.specs.Answers.{deed_of, gained}
use Rattle.hs_ops.specs.Operations.{Operation}
use Rattle.hs_ops.specs.Speaking.{wanted_address}
use Rattle.hs_ops.specs.Views.{OpView}
use Rattle.hs_replica.specs.Group.{last_number}
use Rattle.hs_roots.specs.declared.root.RootRecord.{RootRecord}
use Rattle.hs_roots.specs.Roots.{retained_count}
use Rattle.hs_shard.specs.declared.facts.Facts.{Facts}
use Rattle.hs_shard.specs.Facts.{facts_at}
use Rattle.hs_tokens.specs.Seats.{Seats, close_session, forget, hold, open_session}

-- ---- what an operation sees

-- what it is about
abbrev pub aim_of : ℕ → Op → Core → Aim
aim_of shard o core = record {
  shard = shard;
  address = wanted_address core.sessions o;
  writes = writes_block o;
  roots = puts_root o;
}

abbrev pub facts_by : Aim → Core → Option Facts
facts_by aim core = option_and_then (λ a. facts_at a (catalogue_of aim.shard core)) aim.address

abbrev pub has_room_by : Aim → Core → Bool
has_room_by aim core = if aim.roots then has_root_room aim.shard 0 core else has_block_room aim.shard 0 core

-- an entry that has not taken effect has its address, or takes its room
abbrev pub is_write_pending : Aim → Core → Bool
is_write_pending aim core =
    is_coming aim.shard aim.address core || not (has_block_room aim.shard (count_by is_block (group_of aim.shard core).waiting) core)

abbrev pub is_root_pending : Aim → Core → Bool
is_root_pending aim core = not (has_root_room aim.shard (count_by is_root (group_of aim.shard core).waiting) core)

abbrev pub is_pending_by : Aim → Core → Bool
is_pending_by aim core =
    if aim.writes then is_write_pending aim core else (if aim.roots then is_root_pending aim core else false)

abbrev pub sight_of : Aim → Core → Sight
sight_of aim core = record {
  retained = sum_by (λ c. retained_count c.roots) core.catalogues;
  blocks = sum_by (λ c. length c.blocks) core.catalogues;
  epochs = map (λ c. c.epoch) core.catalogues;
  swept = map (λ c. c.swept) core.catalogues;
  present = option_map (λ facts. facts.number) (facts_by aim core);
  pointers = option_map_or (λ facts. facts.pointers) (facts_by aim core) [];
  room = has_room_by aim core;
  pending = is_pending_by aim core;
  viewed = slice_index_or core.progress.viewed aim.shard false;
}

-- the view that an operation is given
abbrev pub view_of : Sight → Aim → Option ℕ → Limits → Seats → List RootRecord → OpView
view_of sight aim busy limits seats roots = record (empty_view limits aim.shard) {
  seats = seats;
  roots = roots;
  retained = sight.retained;
  blocks = sight.blocks;
  epochs = sight.epochs;
  swept = sight.swept;
  present = sight.present;
  pointers = length sight.pointers;
  room = sight.room;
  pending = sight.pending;
  viewed = sight.viewed;
  busy = busy;
}

abbrev pub view_by : Sight → Aim → Option ℕ → Core → OpView
view_by sight aim busy core = view_of sight aim busy core.limits core.sessions (catalogue_of aim.shard core).roots

-- ---- its step

-- by what is seen of what it is about
abbrev pub step_by : Next → Aim → Option ℕ → Core → Operation → OpStep
step_by how aim busy core operation = next_step how (sight_of aim core).pointers (view_by (sight_of aim core) aim busy core) operation

-- and what its reply would give to hold
abbrev pub gains_by : Aim → Option ℕ → Core → Op → List Held
gains_by aim busy core o = gained (view_by (sight_of aim core) aim busy core) (sight_of aim core).pointers o

-- the operation of a line goes on by it
abbrev pub go_by : Next → ℕ → Core → Core
go_by how line core =
    core ▸ change_with (operation_of line core)
    (λ w. take_step line w (next_step how (pointers_for w.shard w.operation.op core) (view_for w.shard w.operation.op core) w.operation))

-- ---- what the step asks for

-- the operation of a line waits
abbrev pub set_wait : ℕ → Wait → Core → Core
set_wait line what core = core ▸ change_with (operation_of line core) (λ w. wait_for line w what)

-- for what
abbrev pub holds_by : Aim → Core → Wait
holds_by aim core =
    if not (slice_index_or core.progress.viewed aim.shard false) then wait.View else
    if is_coming aim.shard aim.address core then wait.Address else wait.Room

-- the sessions after an answer, by its deed
abbrev pub seats_by : Deed → List Held → Seats → Seats
seats_by (deed.Opened name) helds seats = open_session name seats
seats_by (deed.Closed name) helds seats = close_session name seats
seats_by (deed.Wrote name a pointers handle) helds seats = hold name helds seats
seats_by (deed.Marked name a handle) helds seats = hold name helds seats
seats_by (deed.ReadBlock name a epoch handles) helds seats = hold name helds seats
seats_by (deed.Looked name key handle) helds seats = hold name helds seats
seats_by (deed.Forgot name handle) helds seats = forget name handle seats
seats_by other helds seats = seats

-- one held address after another
abbrev pub hold_each : List ℕ → List Held → Seats → Seats
hold_each name [] seats = seats
hold_each name (held ∷ rest) seats = hold_each name rest (hold name (held ∷ []) seats)

-- an operation is answered, where its reply gives these to hold
abbrev pub answer_with : ℕ → Reply → List Held → Waiting → Core → Core
answer_with line reply helds w core =
    record (core ▸ end_operation line ▸ note (who.Line line) (deed_of core.sessions w.operation.op reply) reply) {
      sessions = seats_by (deed_of core.sessions w.operation.op reply) helds core.sessions;
    }

-- one that is not kept any more
abbrev pub told_with : ℕ → Reply → List Held → Waiting → Core → Core
told_with line reply helds w core =
    record (note (who.Line line) (deed_of core.sessions w.operation.op reply) reply core) {
      sessions = seats_by (deed_of core.sessions w.operation.op reply) helds core.sessions;
    }

-- and a new one
abbrev pub answer_new : ℕ → Reply → List Held → Waiting → Core → Core
answer_new line reply helds w core =
    add_operation line w core ▸ change_with (operation_of line (add_operation line w core)) (answer_with line reply helds)

abbrev pub compare_new : ℕ → ℕ → ℕ → Waiting → Core → Core
compare_new shard line number w core =
    add_operation line w core ▸ set_wait line (wait.Bytes number) ▸ change_with (lead_of shard core) (add_read number line)

abbrev pub carry_by : Aim → ℕ → OpStep → List Held → Core → Core
carry_by aim line (step.Answer reply) helds core = core ▸ change_with (operation_of line core) (answer_with line reply helds)
carry_by aim line (step.Propose entry) helds core =
    core ▸ set_wait line (wait.Entry (last_number (group_of aim.shard core) + 1)) ▸ propose_entry aim.shard entry
carry_by aim line (step.Compare number) helds core =
    core ▸ set_wait line (wait.Bytes number) ▸ change_with (lead_of aim.shard core) (add_read number line)
carry_by aim line step.Wait helds core = core ▸ set_wait line (holds_by aim core)
