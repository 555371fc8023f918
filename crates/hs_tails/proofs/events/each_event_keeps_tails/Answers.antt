use Rattle.hs_standing.proofs.Laws.{Entries, Steps}
use Rattle.hs_tails.proofs.AlongLemmas.{takes_first}
use Rattle.hs_tails.proofs.GoneLemmas.{all_tails_go_on}
use Rattle.hs_tails.proofs.events.each_event_keeps_tails.Goals as goal

pub returns-clause-event : goal.returns-clause-event
returns-clause-event c = λ by start core event moment cs names valid going seated known room clean may stands.
    let steps : Steps = record {
      first = c.a_step_that_answers_is_the_judges.ensures.first;
      later = c.a_step_that_answers_is_the_judges.ensures.later;
      answered = c.an_answer_is_the_judges.ensures.answered;
      read = c.a_read_is_the_judges.ensures.told;
      write = c.a_write_is_the_judges.ensures;
    } in
    let laws : Entries = record {
      stores = c.a_new_block_is_answered_at_its_effect.ensures;
      marks = c.a_present_block_is_answered_at_its_effect.ensures;
      roots = c.a_root_is_answered_at_its_effect.ensures;
      drops = c.a_drop_is_answered_at_its_effect.ensures;
      deletes = c.a_delete_is_answered_at_its_effect.ensures;
      enters_by_itself = c.an_enter_by_itself_is_told.ensures.enters;
      enters_nothing = c.an_enter_by_itself_is_told.ensures.silent;
      sweeps_last = c.a_got_is_silent_or_a_sweep.ensures.sweeps;
      sweeps_nothing = c.a_got_is_silent_or_a_sweep.ensures.silent;
    } in
    takes_first c.views_show_the_store.ensures.shown steps laws by names start valid core event moment cs going seated known room clean may stands

pub returns-clause-events : goal.returns-clause-events
returns-clause-events c = λ by start core events cs names valid clean told may stands.
    let steps : Steps = record {
      first = c.a_step_that_answers_is_the_judges.ensures.first;
      later = c.a_step_that_answers_is_the_judges.ensures.later;
      answered = c.an_answer_is_the_judges.ensures.answered;
      read = c.a_read_is_the_judges.ensures.told;
      write = c.a_write_is_the_judges.ensures;
    } in
    let laws : Entries = record {
      stores = c.a_new_block_is_answered_at_its_effect.ensures;
      marks = c.a_present_block_is_answered_at_its_effect.ensures;
      roots = c.a_root_is_answered_at_its_effect.ensures;
      drops = c.a_drop_is_answered_at_its_effect.ensures;
      deletes = c.a_delete_is_answered_at_its_effect.ensures;
      enters_by_itself = c.an_enter_by_itself_is_told.ensures.enters;
      enters_nothing = c.an_enter_by_itself_is_told.ensures.silent;
      sweeps_last = c.a_got_is_silent_or_a_sweep.ensures.sweeps;
      sweeps_nothing = c.a_got_is_silent_or_a_sweep.ensures.silent;
    } in
    all_tails_go_on c.views_show_the_store.ensures.shown steps laws by names start valid core events cs clean told may stands
