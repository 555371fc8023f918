-- A run over one shard with one copy: its events, its course, its lists, that these events are the ones due, and what happens where the journal is full. A store of two copies: of which one was set aside; and where one fails as it joins.
use Rattle.std.specs.List.{range_with_len}
use Rattle.std.specs.Prelude.{◌≡◌, refl, ℕ, ◌++◌, Bool, false, true, List, [], ◌∷◌, map, Option, Some, None}
use Rattle.hs_events.specs.Commands.{AreOfCommand, LineAt}
use Rattle.hs_events.specs.Course.{happened, items_of, steps}
use Rattle.hs_events.specs.Due.{Events, is_walk, next_due, next_turn}
use Rattle.hs_events.specs.Reports.{failures, only_reads}
use Rattle.hs_events.specs.Taken.{taken_peer}
use Rattle.hs_events.specs.Whole.{Whole, counts, floor, open_whole, reach, step_whole}
use Rattle.hs_core_words.specs.declared.event.Event.TheVariants as event
use Rattle.hs_core_words.specs.Opening.{Taken, open_core}
use Rattle.hs_core_words.specs.State.{Core}
use Rattle.hs_desk.specs.declared.done.Done.TheVariants as done
use Rattle.hs_desk.specs.declared.job.Job.TheVariants as job
use Rattle.hs_entry.specs.Entries.{rank_of}
use Rattle.hs_entry.specs.declared.entry.Entry.TheVariants as kind
use Rattle.hs_fold.specs.Shards.Setting.{Numbered, Setting}
use Rattle.hs_limits.specs.declared.address.Address.{Address}
use Rattle.hs_limits.specs.declared.shape.Shape.{Shape}
use Rattle.hs_limits.specs.Limits.{greatest_limits}
use Rattle.hs_limits.specs.Reading.{addresses, block_at, read_block}
use Rattle.hs_model.specs.declared.command.Command.TheVariants as command
use Rattle.hs_model.specs.declared.course.CourseItem.TheVariants as item
use Rattle.hs_model.specs.declared.op.Op.{Op}
use Rattle.hs_model.specs.declared.op.Op.TheVariants as op
use Rattle.hs_model.specs.Refusals.{no_handle_in, stale_in}
use Rattle.hs_model.specs.Store.{helds_of}
use Rattle.hs_ops.specs.Answers.{deed_of, gained, seats_after}
use Rattle.hs_ops.specs.Going.{asked_for, begin, block_entry, compared, data_of, go, is_same_block, judged_in, mark_entry, on_bytes, on_effect}
use Rattle.hs_ops.specs.Refusals.{refusals_of}
use Rattle.hs_ops.specs.Speaking.{asked_block, least_epoch}
use Rattle.hs_shard.specs.Facts.{empty_catalogue}

abbrev shape : Shape
shape = record { shards = 1; copies = 1 }

-- a session, and the block that is written
abbrev a : List ℕ
a = 97 ∷ []

abbrev written : Option Address → Op
written address = op.Write a (97 ∷ 98 ∷ []) [] address

abbrev its_address : Address
its_address = record { 0 = 118 ∷ 134 ∷ 4 ∷ 38 ∷ 22 ∷ 64 ∷ 36 ∷ 101 ∷ 193 ∷ 109 ∷ 85 ∷ 185 ∷ 186 ∷ 249 ∷ 70 ∷ 59 ∷ 230 ∷ 196 ∷ 105 ∷ 241 ∷ 119 ∷ 120 ∷ 203 ∷ 88 ∷ 112 ∷ 51 ∷ 111 ∷ 150 ∷ 98 ∷ 4 ∷ 160 ∷ 204 ∷ [] }

abbrev spelling : List ℕ
spelling = 1 ∷ 0 ∷ 0 ∷ 0 ∷ 0 ∷ 0 ∷ 2 ∷ 97 ∷ 98 ∷ []

-- ---- the events, each at a moment of its own

abbrev opening : Events
opening = (event.Report 0 (done.Stored 1), 1) ∷ (event.Report 0 (done.Sealed 1), 4) ∷ []

abbrev first_lines : Events
first_lines = (event.Line 1 (op.Open a), 5) ∷ (event.Line 2 (written (Some its_address)), 6) ∷ (event.Turn 3 0, 7) ∷ (event.Report 0 (done.Stored 2), 8) ∷ []

abbrev last_line : Events
last_line = (event.Report 0 (done.Sealed 2), 11) ∷ []

-- a blank disk
abbrev opens_with : Taken
opens_with = record { catalogues = map (λ shard. empty_catalogue shape shard) (range_with_len 0 1); views = 0 ∷ []; lengths = 0 ∷ []; good = true ∷ [] }

abbrev opened : Core
opened = open_core shape greatest_limits opens_with 0

-- behind opening, and behind the first three lines
abbrev begun : Core
begun = steps opened opening

abbrev behind : Core
behind = steps begun first_lines

-- a line of it
abbrev at_line : ℕ → Core → Events → Bool → LineAt
at_line line core events whole = record { line = line; core = core; events = events; whole = whole }

-- ---- what is computed

the_opening : is_walk next_turn true 0 opened opening ≡ true
unfolding gained addresses block_at read_block no_handle_in stale_in helds_of deed_of seats_after asked_for begin block_entry compared data_of go is_same_block judged_in mark_entry on_bytes on_effect refusals_of asked_block least_epoch
the_opening = refl

-- nothing else is due in opening: no report of another job, and no end before
the_opening_is_longer : is_walk next_turn true 0 opened ((event.Report 0 (done.Stored 1), 1) ∷ []) ≡ false
unfolding gained addresses block_at read_block no_handle_in stale_in helds_of deed_of seats_after asked_for begin block_entry compared data_of go is_same_block judged_in mark_entry on_bytes on_effect refusals_of asked_block least_epoch
the_opening_is_longer = refl

no_other_report_is_due : is_walk next_turn false 0 opened ((event.Report 0 (done.Sealed 1), 1) ∷ []) ≡ false
unfolding gained addresses block_at read_block no_handle_in stale_in helds_of deed_of seats_after asked_for begin block_entry compared data_of go is_same_block judged_in mark_entry on_bytes on_effect refusals_of asked_block least_epoch
no_other_report_is_due = refl

the_write : AreOfCommand (λ bytes. its_address) (at_line 2 (steps begun ((event.Line 1 (op.Open a), 5) ∷ [])) ((event.Line 2 (written (Some its_address)), 6) ∷ []) true) (command.Client (written None))
unfolding gained addresses block_at read_block no_handle_in stale_in helds_of deed_of seats_after asked_for begin block_entry compared data_of go is_same_block judged_in mark_entry on_bytes on_effect refusals_of asked_block least_epoch
the_write = (refl, refl)

the_turn : AreOfCommand (λ bytes. its_address) (at_line 3 (steps begun ((event.Line 1 (op.Open a), 5) ∷ (event.Line 2 (written (Some its_address)), 6) ∷ [])) ((event.Turn 3 0, 7) ∷ (event.Report 0 (done.Stored 2), 8) ∷ []) true) (command.Turn 0)
unfolding gained addresses block_at read_block no_handle_in stale_in helds_of deed_of seats_after asked_for begin block_entry compared data_of go is_same_block judged_in mark_entry on_bytes on_effect refusals_of asked_block least_epoch
the_turn = (refl, refl)

the_settle : is_walk next_due true 4 behind last_line ≡ true
unfolding gained addresses block_at read_block no_handle_in stale_in helds_of deed_of seats_after asked_for begin block_entry compared data_of go is_same_block judged_in mark_entry on_bytes on_effect refusals_of asked_block least_epoch
the_settle = refl

-- settle is not over while the write has no answer
settle_goes_on : is_walk next_due true 4 behind [] ≡ false
unfolding gained addresses block_at read_block no_handle_in stale_in helds_of deed_of seats_after asked_for begin block_entry compared data_of go is_same_block judged_in mark_entry on_bytes on_effect refusals_of asked_block least_epoch
settle_goes_on = refl

the_course : items_of opened (opening ++ (first_lines ++ last_line)) ≡ item.Took 0 1 4 ∷ item.Begun 1 5 ∷ item.Begun 2 6 ∷ item.Took 0 2 11 ∷ []
unfolding gained addresses block_at read_block no_handle_in stale_in helds_of deed_of seats_after asked_for begin block_entry compared data_of go is_same_block judged_in mark_entry on_bytes on_effect refusals_of asked_block least_epoch
the_course = refl

-- a failed append has a cost
an_append_costs : failures false 0 opened ((event.Report 0 (done.Failed 0), 1) ∷ []) ≡ 1
unfolding gained addresses block_at read_block no_handle_in stale_in helds_of deed_of seats_after asked_for begin block_entry compared data_of go is_same_block judged_in mark_entry on_bytes on_effect refusals_of asked_block least_epoch
an_append_costs = refl

-- a failed copy costs the disk that is read nothing, where the disks tell nothing; the one that is written it does
a_copy_reads : only_reads 0 (job.Copy 0 1) ≡ true
a_copy_reads = refl

a_copy_writes : only_reads 1 (job.Copy 0 1) ≡ false
a_copy_writes = refl

-- ---- a full journal

abbrev opened_full : Core
opened_full = open_core shape (record greatest_limits { ops = 1 }) opens_with 0

abbrev two_lines : Events
two_lines = (event.Line 1 (op.Open a), 5) ∷ (event.Line 2 op.Stat, 6) ∷ []

-- the second line is refused: it has not happened, and the course doesn't tell of it
one_happened : happened opened_full two_lines ≡ (event.Line 1 (op.Open a), 5) ∷ []
unfolding gained addresses block_at read_block no_handle_in stale_in helds_of deed_of seats_after asked_for begin block_entry compared data_of go is_same_block judged_in mark_entry on_bytes on_effect refusals_of asked_block least_epoch
one_happened = refl

its_course : items_of opened_full two_lines ≡ item.Begun 1 5 ∷ []
unfolding gained addresses block_at read_block no_handle_in stale_in helds_of deed_of seats_after asked_for begin block_entry compared data_of go is_same_block judged_in mark_entry on_bytes on_effect refusals_of asked_block least_epoch
its_course = refl

-- ---- the lists

abbrev run_whole : Whole → Events → Whole
run_whole c [] = c
run_whole c (e ∷ es) = run_whole (step_whole e.0 e.1 c) es

-- opening found a blank disk
abbrev set : Setting
set = record { name = λ bytes. its_address; limits = greatest_limits; shape = shape }

abbrev whole : Whole
whole = open_whole set (record { logs = Some [] ∷ []; lost = []; good = true ∷ []; opened = 0 })

its_core : whole.core ≡ opened
unfolding gained addresses block_at read_block no_handle_in stale_in helds_of deed_of seats_after asked_for begin block_entry compared data_of go is_same_block judged_in mark_entry on_bytes on_effect refusals_of asked_block least_epoch rank_of
its_core = refl

-- as the core opens the View waits
the_view : reach whole 0 ≡ (1, kind.View 1) ∷ []
unfolding gained addresses block_at read_block no_handle_in stale_in helds_of deed_of seats_after asked_for begin block_entry compared data_of go is_same_block judged_in mark_entry on_bytes on_effect refusals_of asked_block least_epoch rank_of
the_view = refl

-- the list grows when an entry is proposed, and its floor when that is sealed
the_list : reach (run_whole whole (opening ++ first_lines)) 0 ≡ (1, kind.View 1) ∷ (2, kind.Block 2 281474976710655 spelling) ∷ []
unfolding gained addresses block_at read_block no_handle_in stale_in helds_of deed_of seats_after asked_for begin block_entry compared data_of go is_same_block judged_in mark_entry on_bytes on_effect refusals_of asked_block least_epoch rank_of
the_list = refl

the_floor_before : floor (run_whole whole (opening ++ first_lines)) 0 ≡ 1
unfolding gained addresses block_at read_block no_handle_in stale_in helds_of deed_of seats_after asked_for begin block_entry compared data_of go is_same_block judged_in mark_entry on_bytes on_effect refusals_of asked_block least_epoch rank_of
the_floor_before = refl

the_floor : floor (run_whole whole (opening ++ (first_lines ++ last_line))) 0 ≡ 2
unfolding gained addresses block_at read_block no_handle_in stale_in helds_of deed_of seats_after asked_for begin block_entry compared data_of go is_same_block judged_in mark_entry on_bytes on_effect refusals_of asked_block least_epoch rank_of
the_floor = refl

-- a disk without a log is not taken
no_log_is_taken : taken_peer shape (None ∷ []) 0 ≡ None
no_log_is_taken = refl

-- ---- two copies: the log of the first was taken, and the second has none

abbrev both : Whole
both = open_whole (record { name = λ bytes. its_address; limits = greatest_limits; shape = record { shards = 1; copies = 2 } })
    (record { logs = Some ((1, kind.View 1) ∷ []) ∷ None ∷ []; lost = []; good = true ∷ false ∷ []; opened = 0 })

of_the_first : reach both 0 ≡ (1, kind.View 1) ∷ (2, kind.View 2) ∷ []
unfolding gained addresses block_at read_block no_handle_in stale_in helds_of deed_of seats_after asked_for begin block_entry compared data_of go is_same_block judged_in mark_entry on_bytes on_effect refusals_of asked_block least_epoch rank_of
of_the_first = refl

its_floor : floor both 0 ≡ 1
unfolding gained addresses block_at read_block no_handle_in stale_in helds_of deed_of seats_after asked_for begin block_entry compared data_of go is_same_block judged_in mark_entry on_bytes on_effect refusals_of asked_block least_epoch rank_of
its_floor = refl

it_counts : counts both 0 ≡ true
unfolding gained addresses block_at read_block no_handle_in stale_in helds_of deed_of seats_after asked_for begin block_entry compared data_of go is_same_block judged_in mark_entry on_bytes on_effect refusals_of asked_block least_epoch rank_of
it_counts = refl

of_the_second : reach both 1 ≡ []
unfolding gained addresses block_at read_block no_handle_in stale_in helds_of deed_of seats_after asked_for begin block_entry compared data_of go is_same_block judged_in mark_entry on_bytes on_effect refusals_of asked_block least_epoch rank_of
of_the_second = refl

it_counts_as_blank : counts both 1 ≡ false
unfolding gained addresses block_at read_block no_handle_in stale_in helds_of deed_of seats_after asked_for begin block_entry compared data_of go is_same_block judged_in mark_entry on_bytes on_effect refusals_of asked_block least_epoch rank_of
it_counts_as_blank = refl

-- ---- two equal copies: the second fails, is started again, and fails as it copies

abbrev equal : Whole
equal = open_whole (record { name = λ bytes. its_address; limits = greatest_limits; shape = record { shards = 1; copies = 2 } })
    (record { logs = Some ((1, kind.View 1) ∷ []) ∷ Some ((1, kind.View 1) ∷ []) ∷ []; lost = []; good = true ∷ true ∷ []; opened = 0 })

-- it was emptied, and copies the first entry
abbrev copying : Events
copying = (event.Fail 1 1, 1) ∷ (event.Start 2 1, 2) ∷ (event.Report 1 done.Emptied, 3) ∷ []

abbrev failing : Events
failing = copying ++ ((event.Report 1 (done.Failed 1), 4) ∷ [])

abbrev again : Events
again = failing ++ ((event.Start 5 1, 5) ∷ [])

abbrev first_entry : Numbered
first_entry = (1, kind.View 1) ∷ []

it_has_one : reach equal 1 ≡ first_entry
unfolding gained addresses block_at read_block no_handle_in stale_in helds_of deed_of seats_after asked_for begin block_entry compared data_of go is_same_block judged_in mark_entry on_bytes on_effect refusals_of asked_block least_epoch rank_of
it_has_one = refl

may_have_a_copy : reach (run_whole equal copying) 1 ≡ first_entry
unfolding gained addresses block_at read_block no_handle_in stale_in helds_of deed_of seats_after asked_for begin block_entry compared data_of go is_same_block judged_in mark_entry on_bytes on_effect refusals_of asked_block least_epoch rank_of
may_have_a_copy = refl

still_when_it_failed : reach (run_whole equal failing) 1 ≡ first_entry
unfolding gained addresses block_at read_block no_handle_in stale_in helds_of deed_of seats_after asked_for begin block_entry compared data_of go is_same_block judged_in mark_entry on_bytes on_effect refusals_of asked_block least_epoch rank_of
still_when_it_failed = refl

-- its emptying is due: what the step before may have added is there still
still_when_it_starts : reach (run_whole equal again) 1 ≡ first_entry
unfolding gained addresses block_at read_block no_handle_in stale_in helds_of deed_of seats_after asked_for begin block_entry compared data_of go is_same_block judged_in mark_entry on_bytes on_effect refusals_of asked_block least_epoch rank_of
still_when_it_starts = refl

it_may_be_blank : floor (run_whole equal again) 1 ≡ 0
unfolding gained addresses block_at read_block no_handle_in stale_in helds_of deed_of seats_after asked_for begin block_entry compared data_of go is_same_block judged_in mark_entry on_bytes on_effect refusals_of asked_block least_epoch rank_of
it_may_be_blank = refl

it_still_counts : counts (run_whole equal again) 1 ≡ true
unfolding gained addresses block_at read_block no_handle_in stale_in helds_of deed_of seats_after asked_for begin block_entry compared data_of go is_same_block judged_in mark_entry on_bytes on_effect refusals_of asked_block least_epoch rank_of
it_still_counts = refl

-- emptied again it has nothing but what the next step adds, which it then has
emptied_again : (run_whole equal (again ++ ((event.Report 1 done.Emptied, 6) ∷ []))).lists 1 ≡ []
unfolding gained addresses block_at read_block no_handle_in stale_in helds_of deed_of seats_after asked_for begin block_entry compared data_of go is_same_block judged_in mark_entry on_bytes on_effect refusals_of asked_block least_epoch rank_of
emptied_again = refl

copied_then : (run_whole equal (again ++ ((event.Report 1 done.Emptied, 6) ∷ (event.Report 1 (done.Copied 1), 7) ∷ []))).lists 1 ≡ first_entry
unfolding gained addresses block_at read_block no_handle_in stale_in helds_of deed_of seats_after asked_for begin block_entry compared data_of go is_same_block judged_in mark_entry on_bytes on_effect refusals_of asked_block least_epoch rank_of
copied_then = refl

-- and where the lead fails meanwhile the joining one has no step
still_without_a_lead : reach (run_whole equal (copying ++ ((event.Fail 4 0, 4) ∷ []))) 1 ≡ first_entry
unfolding gained addresses block_at read_block no_handle_in stale_in helds_of deed_of seats_after asked_for begin block_entry compared data_of go is_same_block judged_in mark_entry on_bytes on_effect refusals_of asked_block least_epoch rank_of
still_without_a_lead = refl
