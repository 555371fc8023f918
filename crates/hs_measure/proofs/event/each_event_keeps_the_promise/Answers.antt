use Rattle.hs_events.specs.Found.{first_core, opens_with}
use Rattle.hs_measure.proofs.EventLemmas.{EventLaws, OpenedLaws, begins_before, front_keeps}
use Rattle.hs_measure.proofs.event.each_event_keeps_the_promise.Goals as goal
use Rattle.hs_standing.specs.Standing.{judging_of}

pub returns-clause-events : goal.returns-clause-events
returns-clause-events c = λ start core events r may its n.
    let laws : EventLaws = record {
      right = c.each_core_of_a_run_counts_right.ensures.stands;
      zeros = c.zero_blocks_are_right.ensures.of_core;
      stands = c.each_event_is_told.ensures.events;
      deletes = c.each_event_keeps_the_rule_of_done.ensures.events;
      turns = c.answers_stay_in_order.ensures.events;
      ordered = c.answers_stay_in_order.ensures.with_refused;
    } in
    front_keeps start core events r may laws its n

pub returns-clause-run : goal.returns-clause-run
returns-clause-run c = λ start found events begins may n.
    let laws : EventLaws = record {
      right = c.each_core_of_a_run_counts_right.ensures.stands;
      zeros = c.zero_blocks_are_right.ensures.of_core;
      stands = c.each_event_is_told.ensures.events;
      deletes = c.each_event_keeps_the_rule_of_done.ensures.events;
      turns = c.answers_stay_in_order.ensures.events;
      ordered = c.answers_stay_in_order.ensures.with_refused;
    } in
    let opened : OpenedLaws = record {
      memory = c.catalogues_in_memory_are_folds.ensures.list;
      turn = c.answers_stay_in_order.ensures.opens;
      stands = c.each_event_is_told.ensures.opens;
    } in
    front_keeps start (first_core start.set found) events (begins_before opened start found begins events) may laws
    (c.each_event_keeps_the_rule_of_done.ensures.opens (judging_of start) start.entry start.set.shape start.set.limits (opens_with start.set found) found.opened) n
