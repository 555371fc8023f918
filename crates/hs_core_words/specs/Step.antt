-- One event of the core.
use Rattle.std.specs.Option.{option_map}
use Rattle.std.specs.Prelude.{ℕ, ◌+◌, ◌++◌, ◌==◌, ◌&&◌, not, [], length, Some, is_none, nat_lt, if◌then◌else◌}
use Rattle.hs_awaiting.specs.Words.{change_if, ◌▸◌}
use Rattle.hs_core_words.specs.declared.event.Event.{Event}
use Rattle.hs_core_words.specs.declared.event.Event.TheVariants as event
use Rattle.hs_core_words.specs.Asking.{deliver, lose, nudge_good, send_again, with_down, with_message, with_up}
use Rattle.hs_core_words.specs.Changing.{change_pool}
use Rattle.hs_core_words.specs.Failing.{go_down}
use Rattle.hs_core_words.specs.Joining.{start}
use Rattle.hs_core_words.specs.Looking.{lost_shard}
use Rattle.hs_core_words.specs.Operating.{begin_line}
use Rattle.hs_core_words.specs.Reporting.{on_report}
use Rattle.hs_core_words.specs.State.{Core}
use Rattle.hs_desk.specs.declared.fault.CoreFault.TheVariants as fault
use Rattle.hs_post.specs.Pool.{is_empty, restart_numbers}

-- the line of an event, 0 where it has none
abbrev pub line_of : Event → ℕ
line_of (event.Line line o) = line
line_of (event.Report peer d) = 0
line_of (event.Turn line peer) = line
line_of (event.Deliver line number) = line
line_of (event.Lose line number) = line
line_of (event.Repeat line number) = line
line_of (event.Nudge line peer) = line
line_of (event.Fail line peer) = line
line_of (event.Start line peer) = line

-- with the first line the numbers of messages start at 1 again, if none is under way
abbrev pub is_first_line : ℕ → Core → Core
is_first_line line core =
    core ▸ change_if ((core.progress.event_line == 0 && not (line == 0)) && is_empty core.pool) (change_pool restart_numbers)

-- the event's moment, and its line, where it has one
abbrev pub begin_event : ℕ → ℕ → Core → Core
begin_event line moment core = record (is_first_line line core) {
  moment = moment;
  progress = record core.progress { event_line = if line == 0 then core.progress.event_line else line };
}

-- by the kind of the event
abbrev pub do_event : Event → Core → Core
do_event (event.Line line o) core = begin_line line o core
do_event (event.Report peer d) core = on_report peer d core
do_event (event.Turn line peer) core = with_up line peer (λ core. core) core
do_event (event.Deliver line number) core = with_message line number (deliver number) core
do_event (event.Lose line number) core = with_message line number (lose number) core
do_event (event.Repeat line number) core = with_message line number (send_again line) core
do_event (event.Nudge line peer) core = with_up line peer (nudge_good peer) core
do_event (event.Fail line peer) core = with_up line peer (go_down peer) core
do_event (event.Start line peer) core = with_down line peer (start peer) core

-- the event's entries are appended at its end; a shard without a good peer ends the core
abbrev pub keep_entries : Core → Core
keep_entries core = record core {
  journal = core.journal ++ core.entries;
  entries = [];
  ended = option_map fault.ShardLost (lost_shard core);
}

-- where the journal has no room for all of them none is, and the core has ended
abbrev pub refuse_entries : Core → Core
refuse_entries core = record core { entries = []; refused = core.entries; ended = Some fault.OpsFull }

abbrev pub end_event : Core → Core
end_event core =
    if nat_lt core.limits.ops (length core.journal + length core.entries) then refuse_entries core else keep_entries core

-- one event at a moment
abbrev pub run_event : Event → ℕ → Core → Core
run_event event moment core = core ▸ begin_event (line_of event) moment ▸ do_event event ▸ end_event

-- a core that has ended stays as it is
abbrev pub step : Event → ℕ → Core → Core
step event moment core = core ▸ change_if (is_none core.ended) (run_event event moment)
