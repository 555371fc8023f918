use Rattle.hs_settled.proofs.DeletesCountLemmas.{CountLaws, core_right}
use Rattle.hs_settled.proofs.BegunLemmas.{Told, stands}
use Rattle.hs_settled.proofs.counts.each_core_of_a_run_counts_right.Goals as goal
use Rattle.hs_events.specs.Course.{steps}
use Rattle.hs_events.specs.Found.{first_core}
use Rattle.hs_standing.proofs.AlongWalkLemmas.{come_front}
use Rattle.hs_standing.specs.Legal.{MayStand}
use Rattle.hs_standing.specs.Standing.{judging_of}
use Rattle.std.proofs.Common.{drop, sym, take, take-append-drop}

pub returns-clause-stands : goal.returns-clause-stands
returns-clause-stands c = λ by start core cs its.
    let laws : CountLaws = record {
      counts = c.counts_of_catalogues_are_right.ensures.counts;
      none = c.no_reached_block_is_a_wrong_zero.ensures.none;
      found = c.each_unreached_block_is_found.ensures.found;
      counted = c.histories_are_counted.ensures.counted;
    } in
    core_right laws by start core cs its

pub returns-clause-copies : goal.returns-clause-copies
returns-clause-copies c = λ by start core events cs names valid clean told may stands n.
    let laws : CountLaws = record {
      counts = c.counts_of_catalogues_are_right.ensures.counts;
      none = c.no_reached_block_is_a_wrong_zero.ensures.none;
      found = c.each_unreached_block_is_found.ensures.found;
      counted = c.histories_are_counted.ensures.counted;
    } in
    let its = c.each_event_is_told.ensures.events by start core (take n events) cs names valid clean told (come_front (MayStand by start) n events core may) stands in
    core_right laws by start (steps core (take n events)) its.0 its.1

pub returns-clause-run : goal.returns-clause-run
returns-clause-run c = λ start found events b may n.
    let laws : CountLaws = record {
      counts = c.counts_of_catalogues_are_right.ensures.counts;
      none = c.no_reached_block_is_a_wrong_zero.ensures.none;
      found = c.each_unreached_block_is_found.ensures.found;
      counted = c.histories_are_counted.ensures.counted;
    } in
    let told : Told = record { opens = c.each_event_is_told.ensures.opens; events = c.each_event_is_told.ensures.events } in
    let its = stands start found b c.catalogues_in_memory_are_folds.ensures.list events may told (take n events) (drop n events) (sym (take-append-drop n events)) in
    core_right laws (judging_of start) start.entry (steps (first_core start.set found) (take n events)) its.0 its.1
