-- Two lines of a script that is told, answered to a sink that tells what it got and when: this run keeps all of the promise and is the machine's, whatever the disk may have.
use Rattle.std.proofs.Common.{ap, arith, inl, sym, ◌∙◌}
use Rattle.std.proofs.lemmas.Bool.{false≢true}
use Rattle.std.proofs.lemmas.List.Elements.{All-append, All-cons, All-from_recursion, All-nil}
use Rattle.std.specs.Fmt.{digits}
use Rattle.std.specs.Option.{option_map_or}
use Rattle.std.specs.Prelude.{◌≡◌, refl, ℕ, zero, suc, ◌<◌, ◌≤◌, Bool, false, true, All, List, [], ◌∷◌, ◌++◌, codes, Option, Some, None, IsSome, slice_get, slice_index_or}
use Rattle.hs_core_words.specs.declared.event.Event.TheVariants as event
use Rattle.hs_desk.specs.declared.done.Done.TheVariants as done
use Rattle.hs_entry.specs.Entries.{rank_of}
use Rattle.hs_limits.specs.Limits.{greatest_limits}
use Rattle.hs_model.specs.Refusals.{no_handle_in, stale_in}
use Rattle.hs_model.specs.declared.op.Op.TheVariants as op
use Rattle.hs_ops.specs.Answers.{deed_of, gained, seats_after}
use Rattle.hs_ops.specs.Going.{asked_for, begin, compared, data_of, go, judged_in, on_bytes, on_effect}
use Rattle.hs_ops.specs.Refusals.{refusals_of}
use Rattle.hs_ops.specs.Speaking.{asked_block, least_epoch}
use Rattle.hs_ports.specs.Sink.{bytes_of, stamped}
use Rattle.hs_ports.specs.Watch.{next_moment}
use Rattle.hs_script.specs.Lines.{line_at, lines_of, words_of}
use Rattle.hs_script.specs.Reading.{commands, driving_line, line_of, reading}
use Rattle.hs_script.specs.Text.{entry_text, text}
use Rattle.hs_promise.specs.declared.status.Status.TheVariants as status
use Rattle.hs_promise.specs.Course.{course_of}
use Rattle.hs_promise.specs.Ends.{Ends}
use Rattle.hs_journal.specs.Moments.{below}
use Rattle.hs_ports.specs.Putting.{PutsFront, got_by}
use Rattle.hs_ports.specs.Objects.{IsDuring}
use Rattle.hs_script.specs.Scripts.{IsBad, is_bad}
use Rattle.hs_promise.specs.Answers.{IsEntry, Prints}
use Rattle.hs_promise.specs.Completes.{HasPrompt}
use Rattle.hs_promise.specs.Found.{HasFound, IsLostBefore}
use Rattle.hs_promise.specs.Lines.{AreLines}
use Rattle.hs_events.specs.Course.{steps}
use Rattle.hs_journal.specs.Telling.{IsDownAt}
use Rattle.hs_promise.specs.Machine.{IsOfMachine, Went}
use Rattle.hs_promise.specs.Promise.{Promise}
use Rattle.hs_promise.specs.Run.{Ran, Script}
use Rattle.hs_events.specs.Found.{first_core, starts_good}
use Rattle.hs_promise.specs.Story.{Story, last_core}
use Rattle.hs_journal.specs.declared.entry.JournalEntry.{JournalEntry}
use Rattle.hs_promise.proofs.Meeting.{no_rise}
use Rattle.hs_promise.proofs.Rejoining.{a, nothing}
use Rattle.hs_promise.proofs.Whole.{begins_with_items, is_of_store, same, store_is}

-- ---- the run

abbrev bytes : List ℕ
bytes = codes "open a\nstat\n"

abbrev script : Script
script = record { set = record { name = λ spelling. record { 0 = [] }; limits = greatest_limits; shape = record { shards = 1; copies = 1 } }; commands = commands bytes }

-- the View is appended and sealed up to moment 5; each line is begun behind the text of the one before
abbrev story : Story
story = record {
  found = record { logs = Some [] ∷ []; lost = []; good = true ∷ []; opened = 2 };
  opening = (event.Report 0 (done.Stored 1), 3) ∷ (event.Report 0 (done.Sealed 1), 5) ∷ [];
  lines = ((event.Line 1 (op.Open a), 5) ∷ []) ∷ ((event.Line 2 op.Stat, 6) ∷ []) ∷ [];
}

abbrev first_text : List ℕ
first_text = codes "1 ok\n"

abbrev second_text : List ℕ
second_text = codes "2 stat blocks 0 roots 0 sessions 1 epochs 1 swept 1\n"

abbrev ran : Ran
ran = record {
  ending = status.Done;
  line = 2;
  journal = (last_core script story).journal;
  kept = [];
  stored = [];
  refused = [];
  course = course_of script story 0;
  old = record nothing { got = Some []; left = Some bytes };
  new = record nothing { moment = 7; got = Some (stamped 6 first_text ++ stamped 7 second_text); left = Some [] };
}

its_text : text ran.journal ≡ first_text ++ second_text
unfolding entry_text digits gained no_handle_in stale_in deed_of seats_after asked_for begin compared data_of go judged_in on_bytes on_effect refusals_of asked_block least_epoch rank_of
its_text = refl

-- ---- what was put, and when

-- the bytes got by each moment are a front of the text of the answers below it
in_time : (m : ℕ) → IsDuring ran.old ran.new m → PutsFront (bytes_of ran.old.got) (text (below m ran.journal)) (bytes_of (got_by m ran.new.got))
unfolding entry_text digits gained no_handle_in stale_in deed_of seats_after asked_for begin compared data_of go judged_in on_bytes on_effect refusals_of asked_block least_epoch rank_of
in_time zero during = absurd (omega (arith, during.above))
in_time (suc zero) during = record { count = 0; put = refl }
in_time (suc (suc zero)) during = record { count = 0; put = refl }
in_time (suc (suc (suc zero))) during = record { count = 0; put = refl }
in_time (suc (suc (suc (suc zero)))) during = record { count = 0; put = refl }
in_time (suc (suc (suc (suc (suc zero))))) during = record { count = 0; put = refl }
in_time (suc (suc (suc (suc (suc (suc zero)))))) during = record { count = 5; put = refl }
in_time (suc (suc (suc (suc (suc (suc (suc zero))))))) during = record { count = 57; put = refl }
in_time (suc (suc (suc (suc (suc (suc (suc (suc m)))))))) during = absurd (omega (arith, during.up_to))

-- each is stamped within the run
abbrev IsWithin : ℕ × ℕ → Type 0
IsWithin byte = (next_moment 0 ≤ byte.1) × (byte.1 ≤ 7)

stamped_within : (moment : ℕ) → 1 ≤ moment → moment ≤ 7 → (some : List ℕ) → All IsWithin (stamped moment some)
stamped_within moment low high [] = All-nil IsWithin
stamped_within moment low high (byte ∷ rest) = All-cons IsWithin (byte, moment) (stamped moment rest) (low, high) (stamped_within moment low high rest)

all_within : All IsWithin (stamped 6 first_text ++ stamped 7 second_text)
all_within = All-append IsWithin (stamped 6 first_text) (stamped 7 second_text) (stamped_within 6 (omega arith) (omega arith) first_text) (stamped_within 7 (omega arith) (omega arith) second_text)

-- ---- the script

abbrev outside_at : Option (List ℕ) → Bool
outside_at line = option_map_or (λ l. is_bad (reading l)) line false

none_outside : (n : ℕ) → n ≤ 2 → outside_at (line_at (lines_of bytes) n) ≡ false
unfolding lines_of words_of reading line_of driving_line
none_outside zero within = refl
none_outside (suc zero) within = refl
none_outside (suc (suc zero)) within = refl
none_outside (suc (suc (suc n))) within = absurd (omega (arith, within))

none_bad : (n : ℕ) → n ≤ 2 → IsBad (lines_of bytes) n → ⊥
none_bad n within bad = false≢true (sym (none_outside n within) ∙ (ap outside_at bad.at ∙ bad.outside))

few : (n : ℕ) → n ≡ 12 → n ≤ 4294967296
few n twelve = omega (arith, twelve)

ends : Ends ran bytes []
unfolding lines_of
ends = record { taken = bytes; parted = refl; good = none_bad; within = omega arith; cause = (refl, refl, few _ refl) }

-- ---- the answers

entries : All (IsEntry script 2) ran.journal
unfolding gained no_handle_in stale_in deed_of seats_after asked_for begin compared data_of go judged_in on_bytes on_effect refusals_of asked_block least_epoch rank_of lines_of words_of reading line_of driving_line
entries = All-from_recursion (IsEntry script 2) ran.journal ((omega arith, inl refl), ((omega arith, inl refl), tt))

few_entries : (n : ℕ) → n ≡ 2 → n ≤ 1048576
few_entries n two = omega (arith, two)

abbrev of_store : Option JournalEntry → Bool
of_store entry = option_map_or is_of_store entry false

none_of_store : (place : ℕ) → of_store (slice_get ran.journal place) ≡ false
unfolding gained no_handle_in stale_in deed_of seats_after asked_for begin compared data_of go judged_in on_bytes on_effect refusals_of asked_block least_epoch rank_of
none_of_store zero = refl
none_of_store (suc zero) = refl
none_of_store (suc (suc place)) = refl

no_note : (place peer line : ℕ) → IsDownAt ran.journal place peer line → ⊥
no_note place peer line down = false≢true (sym (none_of_store place) ∙ (ap of_store down.at ∙ store_is down.note down.store))

prompt : (line : ℕ) → HasPrompt script ran line
unfolding gained no_handle_in stale_in deed_of seats_after asked_for begin compared data_of go judged_in on_bytes on_effect refusals_of asked_block least_epoch rank_of lines_of words_of reading line_of driving_line
prompt zero = λ within prompt lacks. absurd prompt
prompt (suc zero) = λ within prompt lacks. (0, record { entry = _; at = refl; line = refl })
prompt (suc (suc zero)) = λ within prompt lacks. (1, record { entry = _; at = refl; line = refl })
prompt (suc (suc (suc line))) = λ within prompt lacks. absurd (omega (arith, within))

prints : Prints script ran
unfolding entry_text digits gained no_handle_in stale_in deed_of seats_after asked_for begin compared data_of go judged_in on_bytes on_effect refusals_of asked_block least_epoch rank_of
prints = record {
  entries = entries;
  fits = few_entries _ refl;
  dated = record {
    later = λ i j n peer line of down before. absurd (no_note j peer line down);
    earlier = λ i j n peer line of prompt down up_to. absurd (no_note j peer line down);
  };
  nothing = λ none. absurd (false≢true (sym (ap begins_with_items none)));
  printed = refl;
  in_time = λ m behind during. in_time m during;
}

the_promise_is_kept : Promise ⊥ script ran
unfolding gained no_handle_in stale_in deed_of seats_after asked_for begin compared data_of go judged_in on_bytes on_effect refusals_of asked_block least_epoch rank_of
the_promise_is_kept = record {
  script = λ n. refl;
  handed_back = refl;
  prints = prints;
  prompt = prompt;
  time = record { later = omega arith; puts = record { more = stamped 6 first_text ++ stamped 7 second_text; put = refl; stamped = all_within } };
  counts = record { disks = λ peer. same _; sink = same 0; source = same 0 };
  no_load = record { kept = refl; stored = refl };
  cause = refl;
  calm = record { told = λ opened whole peer within none. refl; other = λ peer found is. refl };
  ends = ends;
  told = λ none. absurd none;
}

-- ---- the machine

the_only_is_good : (peer : ℕ) → peer < 1 → starts_good story.found peer ≡ true
the_only_is_good zero within = refl
the_only_is_good (suc peer) within = absurd (omega (arith, within))

good_has_a_log : (peer : ℕ) → starts_good story.found peer ≡ true → IsSome (slice_index_or story.found.logs peer None)
good_has_a_log zero good = refl
good_has_a_log (suc peer) good = absurd (false≢true good)

never_aside : (peer : ℕ) → peer < 1 → starts_good story.found peer ≡ false → ⊥
never_aside peer within bad = false≢true (sym bad ∙ the_only_is_good peer within)

found : HasFound script ran story
found = record {
  logs = refl;
  goods = refl;
  later = omega arith;
  lost = All-nil (IsLostBefore script ran story);
  once = λ i j d before within. absurd (omega arith);
  all_lost = λ peer within taken bad. absurd (never_aside peer within bad);
  kept = good_has_a_log;
  aside = λ peer within bad. absurd (never_aside peer within bad);
}

-- line 1 has its event at moment 5, before anything was put, and line 2 at moment 6, when the first text was
are_lines : AreLines script ran 1 (steps (first_core script.set story.found) story.opening) story.lines
unfolding entry_text digits gained no_handle_in stale_in deed_of seats_after asked_for begin compared data_of go judged_in on_bytes on_effect refusals_of asked_block least_epoch rank_of lines_of words_of reading line_of driving_line
are_lines = (
  record { going = refl; printed = record { on_time = λ behind early. refl; rest = first_text ++ second_text; put = refl }; events = (refl, refl) },
  record { going = refl; printed = record { on_time = λ behind early. refl; rest = second_text; put = refl }; events = (refl, refl) },
)

went : Went script ran story
unfolding gained no_handle_in stale_in deed_of seats_after asked_for begin compared data_of go judged_in on_bytes on_effect refusals_of asked_block least_epoch rank_of
went = record {
  found = found;
  opening = refl;
  lines = are_lines;
  line = refl;
  rises = (omega arith, (omega arith, (omega arith, (omega arith, omega arith))));
  journal = refl;
  refused = refl;
  course = refl;
  ends = record { scripted = refl; opened = refl; past = λ past. refl; full = λ full. absurd (false≢true full); lost = tt };
  failed = λ disk. no_rise _;
}

the_run_is_the_machines : IsOfMachine ⊥ script ran
the_run_is_the_machines = record { script = λ n. refl; how = Some story; went = went; told = λ none. absurd none }
