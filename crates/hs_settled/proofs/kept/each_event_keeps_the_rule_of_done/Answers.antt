use Rattle.hs_settled.proofs.DeletesEventLemmas.{LawsBelow, event_deletes}
use Rattle.hs_settled.proofs.DeletesOpenLemmas.{opens_deletes}
use Rattle.hs_settled.proofs.DeletesRunLemmas.{copies_delete}
use Rattle.hs_settled.proofs.kept.each_event_keeps_the_rule_of_done.Goals as goal

pub returns-clause-opens : goal.returns-clause-opens
returns-clause-opens c = λ by start shape limits taken moment. opens_deletes shape limits taken moment by start

pub returns-clause-event : goal.returns-clause-event
returns-clause-event c = λ by start core event moment cs names valid going seated known room quiet clean may stands its.
    let below : LawsBelow = record {
      blocks = c.sweep_is_exact.ensures.blocks;
      given = c.sweep_is_exact.ensures.given;
      views = c.views_show_the_store.ensures.shown;
      steps = record {
        first = c.a_step_that_answers_is_the_judges.ensures.first;
        later = c.a_step_that_answers_is_the_judges.ensures.later;
        answered = c.an_answer_is_the_judges.ensures.answered;
        read = c.a_read_is_the_judges.ensures.told;
        write = c.a_write_is_the_judges.ensures;
      };
      laws = record {
        stores = c.a_new_block_is_answered_at_its_effect.ensures;
        marks = c.a_present_block_is_answered_at_its_effect.ensures;
        roots = c.a_root_is_answered_at_its_effect.ensures;
        drops = c.a_drop_is_answered_at_its_effect.ensures;
        deletes = c.a_delete_is_answered_at_its_effect.ensures;
        enters_by_itself = c.an_enter_by_itself_is_told.ensures.enters;
        enters_nothing = c.an_enter_by_itself_is_told.ensures.silent;
        sweeps_last = c.a_got_is_silent_or_a_sweep.ensures.sweeps;
        sweeps_nothing = c.a_got_is_silent_or_a_sweep.ensures.silent;
      };
    } in
    event_deletes below by start names valid core event moment cs going seated known room quiet clean may stands its

pub returns-clause-events : goal.returns-clause-events
returns-clause-events c = λ by start core events cs names valid clean told may stands its n.
    let below : LawsBelow = record {
      blocks = c.sweep_is_exact.ensures.blocks;
      given = c.sweep_is_exact.ensures.given;
      views = c.views_show_the_store.ensures.shown;
      steps = record {
        first = c.a_step_that_answers_is_the_judges.ensures.first;
        later = c.a_step_that_answers_is_the_judges.ensures.later;
        answered = c.an_answer_is_the_judges.ensures.answered;
        read = c.a_read_is_the_judges.ensures.told;
        write = c.a_write_is_the_judges.ensures;
      };
      laws = record {
        stores = c.a_new_block_is_answered_at_its_effect.ensures;
        marks = c.a_present_block_is_answered_at_its_effect.ensures;
        roots = c.a_root_is_answered_at_its_effect.ensures;
        drops = c.a_drop_is_answered_at_its_effect.ensures;
        deletes = c.a_delete_is_answered_at_its_effect.ensures;
        enters_by_itself = c.an_enter_by_itself_is_told.ensures.enters;
        enters_nothing = c.an_enter_by_itself_is_told.ensures.silent;
        sweeps_last = c.a_got_is_silent_or_a_sweep.ensures.sweeps;
        sweeps_nothing = c.a_got_is_silent_or_a_sweep.ensures.silent;
      };
    } in
    copies_delete below by start names valid core events clean told may (record { stands = (cs, stands); kept = its }) n
