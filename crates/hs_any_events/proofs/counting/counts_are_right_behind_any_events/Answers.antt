use Rattle.hs_any_events.proofs.AlongLemmas.{LawsBelow, copies_right, sweeps_right}
use Rattle.hs_any_events.proofs.counting.counts_are_right_behind_any_events.Goals as goal
use Rattle.hs_any_events.proofs.OpeningLemmas.{IsOfHistory, opens_of_history}
use Rattle.hs_any_events.proofs.RightLemmas.{counted_right}
use Rattle.hs_any_events.proofs.SweepLemmas.{sweeps_by}
use Rattle.hs_any_events.specs.Events.{ComesNext}
use Rattle.hs_events.specs.Found.{first_core}
use Rattle.hs_known_copies.proofs.KnownLemmas.{comes_on}
use Rattle.hs_settled.proofs.DeletesCountLemmas.{CountLaws}
use Rattle.hs_standing.proofs.TakenLemmas.{may_open}
use Rattle.hs_standing.specs.Opening.{opened_folds}
use Rattle.std.proofs.Common.{◌++◌, [], ◌∷◌, None}

laws_of : (c : goal.After-a_store_that_opens_comes_on) → CountLaws
laws_of c = record {
  counts = c.counts_of_catalogues_are_right.ensures.counts;
  none = c.no_reached_block_is_a_wrong_zero.ensures.none;
  found = c.each_unreached_block_is_found.ensures.found;
  counted = c.histories_are_counted.ensures.counted;
}

below_of : (c : goal.After-a_store_that_opens_comes_on) → LawsBelow
below_of c = record {
  views = c.views_show_the_store.ensures.shown;
  steps = record {
    first = c.a_step_that_answers_is_the_judges.ensures.first;
    later = c.a_step_that_answers_is_the_judges.ensures.later;
    answered = c.an_answer_is_the_judges.ensures.answered;
    read = c.a_read_is_the_judges.ensures.told;
    write = c.a_write_is_the_judges.ensures;
  };
  reads = c.a_read_is_the_judges.ensures.whatever;
  laws = record {
    stores = c.a_new_block_is_answered_at_its_effect.ensures;
    marks = c.a_present_block_is_answered_at_its_effect.ensures;
    roots = c.a_root_is_answered_at_its_effect.ensures;
    drops = c.a_drop_is_answered_at_its_effect.ensures;
    deletes = c.a_delete_is_answered_at_its_effect.ensures;
    enters_by_itself = c.an_enter_by_itself_is_told.ensures.enters;
    enters_nothing = c.an_enter_by_itself_is_told.ensures.silent;
    sweeps_last = c.a_got_is_silent_or_a_sweep.ensures.sweeps;
    sweeps_nothing = c.a_got_is_silent_or_a_sweep.ensures.silent;
  };
}

pub returns-clause-opens : goal.returns-clause-opens
returns-clause-opens c = λ set found shape sound.
    let its : IsOfHistory set.name (opened_folds set found) (first_core set found) = opens_of_history c.catalogues_in_memory_are_folds.ensures.list set found shape sound in
    counted_right (laws_of c) c.zero_blocks_are_right.ensures.behind set.name (first_core set found) (opened_folds set found) its.lawful its.sent

pub returns-clause-events : goal.returns-clause-events
returns-clause-events c = λ set found events o room n.
    copies_right (below_of c) set found (opened_folds set found) o.names (may_open c.catalogues_in_memory_are_folds.ensures.list set found o (λ line. None)) (laws_of c) c.zero_blocks_are_right.ensures.behind events
    (comes_on ComesNext (first_core set found) events (c.a_store_that_opens_comes_on.ensures.soundly set found events o) room) n

pub returns-clause-only : goal.returns-clause-only
returns-clause-only c = λ shard event moment core differs. sweeps_by shard event moment core differs

pub returns-clause-exact : goal.returns-clause-exact
returns-clause-exact c = λ set found events event moment o room going reached acts shard number entry next sweeps.
    sweeps_right (below_of c) set found (opened_folds set found) o.names (may_open c.catalogues_in_memory_are_folds.ensures.list set found o (λ line. None)) (laws_of c) c.zero_blocks_are_right.ensures.behind events event moment
    (comes_on ComesNext (first_core set found) (events ++ (event, moment) ∷ []) (c.a_store_that_opens_comes_on.ensures.soundly set found (events ++ (event, moment) ∷ []) o) room) going reached acts shard number entry next sweeps
