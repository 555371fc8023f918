-- Which disks count at entry, which course counts, and when what was put: computed on small runs.
use Rattle.std.specs.Fmt.{digits}
use Rattle.std.proofs.lemmas.Bool.{false≢true}
use Rattle.std.proofs.Common.{ap}
use Rattle.std.specs.Prelude.{◌≡◌, refl, ℕ, Bool, false, true, List, [], ◌∷◌, ◌++◌, map, take, Option, Some, None}
use Rattle.hs_core_words.specs.declared.event.Event.TheVariants as event
use Rattle.hs_entry.specs.declared.entry.Entry.TheVariants as kind
use Rattle.hs_entry.specs.Entries.{rank_of}
use Rattle.hs_fold.specs.Shards.Setting.{Numbered}
use Rattle.hs_journal.specs.declared.entry.JournalEntry.{JournalEntry}
use Rattle.hs_journal.specs.declared.entry.Who.TheVariants as who
use Rattle.hs_limits.specs.declared.shape.Shape.{Shape}
use Rattle.hs_model.specs.declared.course.CourseItem.{CourseItem}
use Rattle.hs_model.specs.declared.course.CourseItem.TheVariants as item
use Rattle.hs_model.specs.declared.deed.Deed.TheVariants as deed
use Rattle.hs_model.specs.declared.reply.Reply.TheVariants as reply
use Rattle.hs_model.specs.Store.{empty_store}
use Rattle.hs_ports.specs.Disk.{Standing, settled}
use Rattle.hs_script.specs.Text.{entry_text, text}
use Rattle.hs_side.specs.Reading.{log_of}
use Rattle.hs_promise.specs.declared.status.Status.{Status}
use Rattle.hs_promise.specs.declared.status.Status.TheVariants as status
use Rattle.hs_promise.specs.Entry.{counted_course, entry_logs, entry_store, is_aside}
use Rattle.hs_promise.specs.Lines.{IsPrintedBefore}
use Rattle.hs_events.specs.Commands.{LineAt}
use Rattle.hs_ports.specs.Objects.{Objects}
use Rattle.hs_events.specs.Taken.{taken_items, taken_peer}
use Rattle.hs_promise.specs.Run.{Ran}
use Rattle.hs_promise.proofs.Rejoining.{nothing, ran, script, story}
use Rattle.hs_events.specs.Found.{first_core}

-- ---- the log that is taken

-- three copies: a longer list of a lower view, and two equal ones of a higher view
abbrev logs : List (Option Numbered)
logs = Some ((1, kind.View 1) ∷ (2, kind.Drop 1 []) ∷ (3, kind.Drop 2 []) ∷ []) ∷ Some ((1, kind.View 2) ∷ []) ∷ Some ((1, kind.View 2) ∷ []) ∷ []

abbrev three : Shape
three = record { shards = 1; copies = 3 }

-- the view counts before the length, and of equals the lowest peer has the taken log
the_higher_view_is_taken : taken_peer three logs 0 ≡ Some 1
unfolding rank_of
the_higher_view_is_taken = refl

a_course_begins_with_it : taken_items three logs 7 ≡ item.Good 1 7 ∷ item.Took 0 1 7 ∷ []
unfolding rank_of
a_course_begins_with_it = refl

-- a disk that has no log is never taken, though it counts as blank
no_log_is_taken : taken_peer three (None ∷ Some [] ∷ None ∷ []) 0 ≡ Some 1
unfolding rank_of
no_log_is_taken = refl

nothing_is_taken : taken_items three (None ∷ None ∷ None ∷ []) 7 ≡ []
unfolding rank_of
nothing_is_taken = refl

-- ---- which disks count

abbrev blank : Standing
blank = record { seen = λ side. []; loose = λ side. settled []; past = λ moment side. settled []; last = 0 }

-- two blank disks
abbrev handed : List ℕ → Objects
handed faults = record nothing { disks = blank ∷ blank ∷ []; disk_faults = faults }

-- that a peer is down, told before any line had an event, or behind line 4
abbrev note : ℕ → ℕ → JournalEntry
note peer line = record { who = who.Store; moment = 3; deed = deed.Nothing; reply = reply.Down peer line }

-- the log of peer 0 was taken, and then this was told
abbrev with_note : Status → JournalEntry → Ran
with_note ending entry = record {
  ending = ending;
  line = 0;
  journal = entry ∷ [];
  kept = [];
  stored = [];
  refused = [];
  course = item.Good 0 0 ∷ item.Took 0 0 0 ∷ [];
  old = handed (0 ∷ 0 ∷ []);
  new = handed (1 ∷ 1 ∷ []);
}

-- and this happened behind that
abbrev with_more : Status → JournalEntry → List CourseItem → Ran
with_more ending entry items = record (with_note ending entry) { course = item.Good 0 0 ∷ item.Took 0 0 0 ∷ items }

-- opening set the other peer aside, and its disk counts as blank
the_other_is_aside : is_aside script (with_note status.NoMemory (note 1 0)) 1 ≡ true
the_other_is_aside = refl

-- also where it joined later, behind the first View or before it
one_that_joined_was_aside : is_aside script (with_more status.Done (note 1 0) (item.Took 0 1 5 ∷ item.Good 1 9 ∷ [])) 1 ≡ true
one_that_joined_was_aside = refl

one_that_joined_at_once_was_aside : is_aside script (with_more status.Done (note 1 0) (item.Good 1 9 ∷ [])) 1 ≡ true
one_that_joined_at_once_was_aside = refl

-- not so the peer of the taken log, though its disk failed in opening too
the_taken_is_not_aside : is_aside script (with_note status.NoMemory (note 0 0)) 0 ≡ false
the_taken_is_not_aside = refl

-- nor one that was good as the core opened and failed in a turn of opening, which its note tells alike, but later
a_failure_in_a_turn_is_not_aside : is_aside script (with_more status.Done (note 1 0) (item.Good 1 2 ∷ item.Bad 1 3 ∷ item.Took 0 1 5 ∷ [])) 1 ≡ false
a_failure_in_a_turn_is_not_aside = refl

-- nor one that failed behind a line
a_later_failure_is_not_aside : is_aside script (with_more status.Done (note 1 4) (item.Good 1 2 ∷ item.Took 0 1 5 ∷ item.Bad 1 8 ∷ [])) 1 ≡ false
a_later_failure_is_not_aside = refl

-- where no log was taken each peer was set aside that is told to be down
without_a_course : is_aside script (record (with_note (status.ShardLost 0) (note 1 0)) { course = [] }) 1 ≡ true
without_a_course = refl

logs_at_entry : entry_logs script (with_note status.NoMemory (note 1 0)) ≡ Some [] ∷ None ∷ []
unfolding log_of
logs_at_entry = refl

blank_disks_open_empty : entry_store script (with_note status.NoMemory (note 1 0)) ≡ empty_store 1
unfolding rank_of log_of
blank_disks_open_empty = refl

-- ---- the course that counts

-- memory was wanting before there was a course
abbrev wanting : List ℕ → Ran
wanting faults = record (with_note status.NoMemory (note 1 0)) { journal = []; course = []; new = handed faults }

the_logs_of_the_disks_count : counted_course script (wanting (0 ∷ 1 ∷ [])) ≡ item.Good 0 0 ∷ item.Took 0 0 0 ∷ []
unfolding rank_of log_of
the_logs_of_the_disks_count = refl

-- but not as good where the disk failed in this call
a_failed_disk_is_not_good : counted_course script (wanting (1 ∷ 0 ∷ [])) ≡ item.Took 0 0 0 ∷ []
unfolding rank_of log_of
a_failed_disk_is_not_good = refl

-- on any other status an empty course stays empty
no_course_counts : counted_course script (record (wanting (0 ∷ 0 ∷ [])) { ending = status.ShardLost 0 }) ≡ []
unfolding rank_of log_of
no_course_counts = refl

-- ---- when what was put

-- two answers, of which the first stood when the line was begun; the sink got its text at some moment, and then that of the second at moment 5
abbrev answer : ℕ → ℕ → JournalEntry
answer line moment = record { who = who.Line line; moment = moment; deed = deed.Nothing; reply = reply.Ok }

abbrev put_at : ℕ → Ran
put_at moment = record ran {
  journal = answer 1 0 ∷ answer 2 3 ∷ [];
  old = record nothing { got = Some [] };
  new = record nothing { moment = 5; got = Some (map (λ byte. (byte, moment)) (text (answer 1 0 ∷ [])) ++ map (λ byte. (byte, 5)) (text (answer 2 3 ∷ []))) };
}

-- line 2 has its first event at moment 3
abbrev second_line : LineAt
second_line = record { line = 2; core = record (first_core script.set story.found) { journal = answer 1 0 ∷ [] }; events = (event.Nudge 2 0, 3) ∷ []; whole = true }

printed_in_time : IsPrintedBefore (put_at 2) second_line
unfolding entry_text digits
printed_in_time = record { on_time = λ behind early. refl; rest = text (answer 2 3 ∷ []); put = refl }

-- a line without events too is begun only where the text before it was put: here the sink failed within that of the first answer
abbrev failing : Ran
failing = record (put_at 2) { ending = status.WriteFault; new = record nothing { moment = 5; got = Some (map (λ byte. (byte, 2)) (take 3 (text (answer 1 0 ∷ [])))) } }

abbrev blank_line : LineAt
blank_line = record second_line { events = [] }

-- whether there is a fourth byte
abbrev has_a_fourth : Option (List ℕ) → Bool
has_a_fourth (Some (first ∷ second ∷ third ∷ fourth ∷ rest)) = true
has_a_fourth other = false

not_printed : IsPrintedBefore failing blank_line → ⊥
unfolding entry_text digits
not_printed before = false≢true (ap has_a_fourth before.put)
