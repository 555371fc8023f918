-- A run in which a peer fails, joins again, and the other one fails: its events, its course, and that these are the ones due.
use Rattle.std.specs.Option.{option_map}
use Rattle.std.specs.Prelude.{◌≡◌, refl, ℕ, ◌==◌, ◌++◌, false, true, List, [], ◌∷◌, find, flat_map, map, take, Option, Some, None}
use Rattle.hs_core_words.specs.declared.event.Event.{Event}
use Rattle.hs_core_words.specs.declared.event.Event.TheVariants as event
use Rattle.hs_core_words.specs.State.{Core}
use Rattle.hs_desk.specs.declared.done.Done.TheVariants as done
use Rattle.hs_entry.specs.Entries.{rank_of}
use Rattle.hs_limits.specs.declared.address.Address.{Address}
use Rattle.hs_limits.specs.declared.shape.Shape.{Shape}
use Rattle.hs_limits.specs.Limits.{greatest_limits}
use Rattle.hs_limits.specs.Reading.{addresses, block_at, read_block}
use Rattle.hs_model.specs.declared.command.Command.{Command}
use Rattle.hs_model.specs.declared.command.Command.TheVariants as command
use Rattle.hs_model.specs.declared.course.CourseItem.TheVariants as item
use Rattle.hs_model.specs.declared.op.Op.{Op}
use Rattle.hs_model.specs.declared.op.Op.TheVariants as op
use Rattle.hs_model.specs.Refusals.{no_handle_in, stale_in}
use Rattle.hs_model.specs.Store.{helds_of}
use Rattle.hs_ops.specs.Answers.{deed_of, gained, seats_after}
use Rattle.hs_ops.specs.Going.{asked_for, begin, block_entry, compared, data_of, go, is_same_block, judged_in, mark_entry, on_bytes, on_effect}
use Rattle.hs_ops.specs.Refusals.{refusals_of}
use Rattle.hs_ops.specs.Speaking.{asked_block, least_epoch}
use Rattle.hs_promise.specs.declared.status.Status.TheVariants as status
use Rattle.hs_promise.specs.Course.{course_of}
use Rattle.hs_promise.specs.Lines.{AreLines, IsOnTime, IsPrintedBefore}
use Rattle.hs_events.specs.Commands.{LineAt}
use Rattle.hs_events.specs.Course.{event_items, steps}
use Rattle.hs_events.specs.Due.{Events, is_walk, next_due, next_turn}
use Rattle.hs_ports.specs.Objects.{Objects}
use Rattle.hs_events.specs.Reports.{failures}
use Rattle.hs_promise.specs.Run.{Ran, Script}
use Rattle.hs_events.specs.Found.{first_core}
use Rattle.hs_promise.specs.Story.{Story, last_core}

abbrev pub shape : Shape
shape = record { shards = 1; copies = 2 }

-- a session, and the block that is written
abbrev pub a : List ℕ
a = 97 ∷ []

abbrev pub written : Option Address → Op
written address = op.Write a (97 ∷ 98 ∷ []) [] address

abbrev pub its_address : Address
its_address = record { 0 = 118 ∷ 134 ∷ 4 ∷ 38 ∷ 22 ∷ 64 ∷ 36 ∷ 101 ∷ 193 ∷ 109 ∷ 85 ∷ 185 ∷ 186 ∷ 249 ∷ 70 ∷ 59 ∷ 230 ∷ 196 ∷ 105 ∷ 241 ∷ 119 ∷ 120 ∷ 203 ∷ 88 ∷ 112 ∷ 51 ∷ 111 ∷ 150 ∷ 98 ∷ 4 ∷ 160 ∷ 204 ∷ [] }

-- ---- the events: one shard in two copies

-- both peers append and seal the View, and each tells so
abbrev pub opening : Events
opening = (event.Report 0 (done.Stored 1), 0) ∷ (event.Report 0 (done.Sealed 1), 0) ∷ (event.Deliver 0 1, 0)
    ∷ (event.Report 1 (done.Stored 1), 0) ∷ (event.Report 1 (done.Sealed 1), 0) ∷ (event.Deliver 0 2, 0) ∷ []

abbrev pub spelling : List ℕ
spelling = 1 ∷ 0 ∷ 0 ∷ 0 ∷ 0 ∷ 0 ∷ 2 ∷ 97 ∷ 98 ∷ []

-- the lines with their commands
abbrev pub lines : List (ℕ × Command × Events)
lines = (1, command.Client (op.Open a), (event.Line 1 (op.Open a), 0) ∷ [])
    ∷ (2, command.Client (written None), (event.Line 2 (written (Some its_address)), 0) ∷ [])
    ∷ (3, command.Turn 0, (event.Turn 3 0, 0) ∷ (event.Report 0 (done.Stored 2), 0) ∷ [])
    ∷ (4, command.Turn 0, (event.Turn 4 0, 0) ∷ (event.Report 0 (done.Sealed 2), 0) ∷ [])
    ∷ (5, command.Fail 0, (event.Fail 5 0, 0) ∷ [])
    ∷ (6, command.Settle, (event.Report 1 (done.Stored 2), 0) ∷ (event.Report 1 (done.Sealed 2), 0) ∷ (event.Report 1 (done.Stored 3), 0) ∷ (event.Report 1 (done.Sealed 3), 0) ∷ (event.Deliver 6 1, 0) ∷ [])
    ∷ (7, command.Start 0, (event.Start 7 0, 0) ∷ [])
    ∷ (8, command.Settle, (event.Report 0 done.Emptied, 0) ∷ (event.Report 0 (done.Copied 1), 0) ∷ (event.Report 0 (done.Copied 2), 0) ∷ (event.Report 0 (done.Copied 3), 0) ∷ (event.Report 0 (done.Stored 4), 0) ∷ (event.Report 0 (done.Sealed 4), 0) ∷ (event.Deliver 8 2, 0) ∷ (event.Report 1 (done.Stored 4), 0) ∷ (event.Report 1 (done.Sealed 4), 0) ∷ (event.Deliver 8 3, 0) ∷ [])
    ∷ (9, command.Client (written None), (event.Line 9 (written (Some its_address)), 0) ∷ [])
    ∷ (10, command.Settle, (event.Report 0 (done.Bytes 3 spelling), 0) ∷ (event.Report 0 (done.Stored 5), 0) ∷ (event.Report 0 (done.Sealed 5), 0) ∷ (event.Deliver 10 4, 0) ∷ (event.Report 1 (done.Stored 5), 0) ∷ (event.Report 1 (done.Sealed 5), 0) ∷ (event.Deliver 10 5, 0) ∷ [])
    ∷ (11, command.Fail 1, (event.Fail 11 1, 0) ∷ [])
    ∷ (12, command.Client (op.Read a 0), (event.Line 12 (op.Read a 0), 0) ∷ [])
    ∷ (13, command.Settle, (event.Report 0 (done.Stored 6), 0) ∷ (event.Report 0 (done.Sealed 6), 0) ∷ (event.Report 0 (done.Bytes 3 spelling), 0) ∷ [])
    ∷ (14, command.Client op.Stat, (event.Line 14 op.Stat, 0) ∷ [])
    ∷ []

-- two blank disks, both good when the core is opened
abbrev pub story : Story
story = record { found = record { logs = Some [] ∷ Some [] ∷ []; lost = []; good = true ∷ true ∷ []; opened = 0 }; opening = opening; lines = map (λ l. l.2) lines }

-- the naming gives the address of the only block that is written
abbrev pub script : Script
script = record {
  set = record { name = λ bytes. its_address; limits = greatest_limits; shape = shape };
  commands = λ n. option_map (λ l. l.1) (find (λ l. l.0 == n) lines);
}

-- objects that tell nothing
abbrev pub nothing : Objects
nothing = record { moment = 0; disks = []; got = None; left = None; disk_faults = []; sink_faults = 0; source_faults = 0 }

-- the run that goes so
abbrev pub ran : Ran
ran = record { ending = status.Done; line = 14; journal = (last_core script story).journal; kept = []; stored = []; refused = []; course = course_of script story 0; old = nothing; new = nothing }

-- ---- what is computed of it

-- peer 0 fails, joins again, and then peer 1 fails
the_course : course_of script story 0 ≡ item.Good 0 0 ∷ item.Took 0 0 0 ∷ item.Good 1 0 ∷ item.Took 0 1 0 ∷ item.Begun 1 0 ∷ item.Begun 2 0 ∷ item.Bad 0 0 ∷ item.Took 0 2 0
    ∷ item.Took 0 3 0 ∷ item.Good 0 0 ∷ item.Took 0 4 0 ∷ item.Begun 9 0 ∷ item.Took 0 5 0 ∷ item.Bad 1 0 ∷ item.Begun 12 0 ∷ item.Took 0 6 0 ∷ item.Begun 14 0 ∷ []
unfolding gained addresses block_at read_block no_handle_in stale_in helds_of deed_of seats_after asked_for begin block_entry compared data_of go is_same_block judged_in mark_entry on_bytes on_effect refusals_of asked_block least_epoch rank_of
the_course = refl

-- opening's events are turns until nobody has one
pub the_opening : is_walk next_turn true 0 (first_core script.set story.found) story.opening ≡ true
unfolding gained addresses block_at read_block no_handle_in stale_in helds_of deed_of seats_after asked_for begin block_entry compared data_of go is_same_block judged_in mark_entry on_bytes on_effect refusals_of asked_block least_epoch rank_of
the_opening = refl

-- a sink that tells nothing has got what was answered
on_time : (at : LineAt) (events : Events) → IsOnTime ran at events
on_time at [] = tt
on_time at (e ∷ es) = λ behind early. refl

told_nothing : (at : LineAt) → IsPrintedBefore ran at
told_nothing at = record { on_time = on_time at at.events; rest = []; put = refl }

-- each line has the events that are due for it, behind all text so far
pub the_lines : AreLines script ran 1 (steps (first_core script.set story.found) story.opening) story.lines
unfolding gained addresses block_at read_block no_handle_in stale_in helds_of deed_of seats_after asked_for begin block_entry compared data_of go is_same_block judged_in mark_entry on_bytes on_effect refusals_of asked_block least_epoch rank_of
the_lines = (record { going = refl; printed = told_nothing _; events = (refl, refl) }, (record { going = refl; printed = told_nothing _; events = (refl, refl) }, (record { going = refl; printed = told_nothing _; events = (refl, refl) }, (record { going = refl; printed = told_nothing _; events = (refl, refl) }, (record { going = refl; printed = told_nothing _; events = (refl, refl) }, (record { going = refl; printed = told_nothing _; events = refl }, (record { going = refl; printed = told_nothing _; events = (refl, refl) }, (record { going = refl; printed = told_nothing _; events = refl }, (record { going = refl; printed = told_nothing _; events = (refl, refl) }, (record { going = refl; printed = told_nothing _; events = refl }, (record { going = refl; printed = told_nothing _; events = (refl, refl) }, (record { going = refl; printed = told_nothing _; events = (refl, refl) }, (record { going = refl; printed = told_nothing _; events = refl }, record { going = refl; printed = told_nothing _; events = (refl, refl) })))))))))))))

-- the core has not ended
pub the_end : (last_core script story).ended ≡ None
unfolding gained addresses block_at read_block no_handle_in stale_in helds_of deed_of seats_after asked_for begin block_entry compared data_of go is_same_block judged_in mark_entry on_bytes on_effect refusals_of asked_block least_epoch rank_of
the_end = refl

-- ---- what is not due, and what a failure costs

-- the core behind opening and the first lines
abbrev core_at : ℕ → Core
core_at n = steps (first_core script.set story.found) (opening ++ flat_map (λ l. l.2) (take n lines))

-- peer 1 has no turn while peer 0 has one
no_other_turn_is_due : is_walk next_turn false 0 (first_core script.set story.found) ((event.Report 1 (done.Stored 1), 0) ∷ []) ≡ false
unfolding gained addresses block_at read_block no_handle_in stale_in helds_of deed_of seats_after asked_for begin block_entry compared data_of go is_same_block judged_in mark_entry on_bytes on_effect refusals_of asked_block least_epoch rank_of
no_other_turn_is_due = refl

-- settle on line 6 may be cut short behind its first report, but is not over then
settle_goes_on : is_walk next_due true 6 (core_at 5) ((event.Report 1 (done.Stored 2), 0) ∷ []) ≡ false
unfolding gained addresses block_at read_block no_handle_in stale_in helds_of deed_of seats_after asked_for begin block_entry compared data_of go is_same_block judged_in mark_entry on_bytes on_effect refusals_of asked_block least_epoch rank_of
settle_goes_on = refl

settle_is_cut : is_walk next_due false 6 (core_at 5) ((event.Report 1 (done.Stored 2), 0) ∷ []) ≡ true
unfolding gained addresses block_at read_block no_handle_in stale_in helds_of deed_of seats_after asked_for begin block_entry compared data_of go is_same_block judged_in mark_entry on_bytes on_effect refusals_of asked_block least_epoch rank_of
settle_is_cut = refl

-- an append that fails has a cost; a read that finds no log has one only where the disks tell their contents
an_append_costs : failures false 0 (first_core script.set story.found) ((event.Report 0 (done.Failed 0), 0) ∷ []) ≡ 1
unfolding gained addresses block_at read_block no_handle_in stale_in helds_of deed_of seats_after asked_for begin block_entry compared data_of go is_same_block judged_in mark_entry on_bytes on_effect refusals_of asked_block least_epoch rank_of
an_append_costs = refl

a_read_is_free : failures false 0 (core_at 9) ((event.Report 0 (done.Failed 0), 0) ∷ []) ≡ 0
unfolding gained addresses block_at read_block no_handle_in stale_in helds_of deed_of seats_after asked_for begin block_entry compared data_of go is_same_block judged_in mark_entry on_bytes on_effect refusals_of asked_block least_epoch rank_of
a_read_is_free = refl

a_told_read_costs : failures true 0 (core_at 9) ((event.Report 0 (done.Failed 0), 0) ∷ []) ≡ 1
unfolding gained addresses block_at read_block no_handle_in stale_in helds_of deed_of seats_after asked_for begin block_entry compared data_of go is_same_block judged_in mark_entry on_bytes on_effect refusals_of asked_block least_epoch rank_of
a_told_read_costs = refl

-- a copy that fails at the joining peer's own disk has a cost; at the lead's, which is read, only where the disks tell their contents
abbrev copying : Core
copying = steps (core_at 7) ((event.Report 0 done.Emptied, 0) ∷ [])

a_copy_costs : failures false 0 copying ((event.Report 0 (done.Failed 0), 0) ∷ []) ≡ 1
unfolding gained addresses block_at read_block no_handle_in stale_in helds_of deed_of seats_after asked_for begin block_entry compared data_of go is_same_block judged_in mark_entry on_bytes on_effect refusals_of asked_block least_epoch rank_of
a_copy_costs = refl

a_copied_read_is_free : failures false 1 copying ((event.Report 0 (done.Failed 1), 0) ∷ []) ≡ 0
unfolding gained addresses block_at read_block no_handle_in stale_in helds_of deed_of seats_after asked_for begin block_entry compared data_of go is_same_block judged_in mark_entry on_bytes on_effect refusals_of asked_block least_epoch rank_of
a_copied_read_is_free = refl

-- the write of line 2 takes effect in an event of line 6, which answers it
abbrev before_effect : Core
before_effect = steps (core_at 5) ((event.Report 1 (done.Stored 2), 0) ∷ (event.Report 1 (done.Sealed 2), 0) ∷ (event.Report 1 (done.Stored 3), 0) ∷ [])

abbrev effect : Event × ℕ
effect = (event.Report 1 (done.Sealed 3), 0)

it_takes_effect : event_items before_effect effect ≡ item.Took 0 3 0 ∷ []
unfolding gained addresses block_at read_block no_handle_in stale_in helds_of deed_of seats_after asked_for begin block_entry compared data_of go is_same_block judged_in mark_entry on_bytes on_effect refusals_of asked_block least_epoch rank_of
it_takes_effect = refl

-- but not where the journal has no room for the answer
refused_it_has_not_happened : event_items (record before_effect { limits = record greatest_limits { ops = 1 } }) effect ≡ []
unfolding gained addresses block_at read_block no_handle_in stale_in helds_of deed_of seats_after asked_for begin block_entry compared data_of go is_same_block judged_in mark_entry on_bytes on_effect refusals_of asked_block least_epoch rank_of
refused_it_has_not_happened = refl
