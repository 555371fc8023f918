use Rattle.hs_standing.proofs.RunLemmas.{LawsBelow}
use Rattle.hs_tails.proofs.MomentLemmas.{moment_runs}
use Rattle.hs_tails.proofs.OpenFirstLemmas.{lines_begin}
use Rattle.hs_tails.proofs.OpenLinesLemmas.{all_lines_on}
use Rattle.hs_tails.proofs.run.a_run_goes_on_with_its_tails.Goals as goal

pub returns-clause-opens : goal.returns-clause-opens
returns-clause-opens c = λ start found begins going few.
    let below : LawsBelow = record {
      views = c.views_show_the_store.ensures.shown;
      steps = record {
        first = c.a_step_that_answers_is_the_judges.ensures.first;
        later = c.a_step_that_answers_is_the_judges.ensures.later;
        answered = c.an_answer_is_the_judges.ensures.answered;
        read = c.a_read_is_the_judges.ensures.told;
        write = c.a_write_is_the_judges.ensures;
      };
      laws = record {
        stores = c.a_new_block_is_answered_at_its_effect.ensures;
        marks = c.a_present_block_is_answered_at_its_effect.ensures;
        roots = c.a_root_is_answered_at_its_effect.ensures;
        drops = c.a_drop_is_answered_at_its_effect.ensures;
        deletes = c.a_delete_is_answered_at_its_effect.ensures;
        enters_by_itself = c.an_enter_by_itself_is_told.ensures.enters;
        enters_nothing = c.an_enter_by_itself_is_told.ensures.silent;
        sweeps_last = c.a_got_is_silent_or_a_sweep.ensures.sweeps;
        sweeps_nothing = c.a_got_is_silent_or_a_sweep.ensures.silent;
      };
      memory = c.catalogues_in_memory_are_folds.ensures.list;
      turns = c.answers_stay_in_order.ensures.event;
      opens = c.answers_stay_in_order.ensures.opens;
      alone = c.no_line_waits_twice.ensures;
    } in
    lines_begin below start found begins going few

pub returns-clause-goes_on : goal.returns-clause-goes_on
returns-clause-goes_on c = λ start whole events runs may going.
    let below : LawsBelow = record {
      views = c.views_show_the_store.ensures.shown;
      steps = record {
        first = c.a_step_that_answers_is_the_judges.ensures.first;
        later = c.a_step_that_answers_is_the_judges.ensures.later;
        answered = c.an_answer_is_the_judges.ensures.answered;
        read = c.a_read_is_the_judges.ensures.told;
        write = c.a_write_is_the_judges.ensures;
      };
      laws = record {
        stores = c.a_new_block_is_answered_at_its_effect.ensures;
        marks = c.a_present_block_is_answered_at_its_effect.ensures;
        roots = c.a_root_is_answered_at_its_effect.ensures;
        drops = c.a_drop_is_answered_at_its_effect.ensures;
        deletes = c.a_delete_is_answered_at_its_effect.ensures;
        enters_by_itself = c.an_enter_by_itself_is_told.ensures.enters;
        enters_nothing = c.an_enter_by_itself_is_told.ensures.silent;
        sweeps_last = c.a_got_is_silent_or_a_sweep.ensures.sweeps;
        sweeps_nothing = c.a_got_is_silent_or_a_sweep.ensures.silent;
      };
      memory = c.catalogues_in_memory_are_folds.ensures.list;
      turns = c.answers_stay_in_order.ensures.event;
      opens = c.answers_stay_in_order.ensures.opens;
      alone = c.no_line_waits_twice.ensures;
    } in
    all_lines_on below start whole runs events may going

pub returns-clause-moments : goal.returns-clause-moments
returns-clause-moments c = λ start stop whole events runs begun may inside going.
    let below : LawsBelow = record {
      views = c.views_show_the_store.ensures.shown;
      steps = record {
        first = c.a_step_that_answers_is_the_judges.ensures.first;
        later = c.a_step_that_answers_is_the_judges.ensures.later;
        answered = c.an_answer_is_the_judges.ensures.answered;
        read = c.a_read_is_the_judges.ensures.told;
        write = c.a_write_is_the_judges.ensures;
      };
      laws = record {
        stores = c.a_new_block_is_answered_at_its_effect.ensures;
        marks = c.a_present_block_is_answered_at_its_effect.ensures;
        roots = c.a_root_is_answered_at_its_effect.ensures;
        drops = c.a_drop_is_answered_at_its_effect.ensures;
        deletes = c.a_delete_is_answered_at_its_effect.ensures;
        enters_by_itself = c.an_enter_by_itself_is_told.ensures.enters;
        enters_nothing = c.an_enter_by_itself_is_told.ensures.silent;
        sweeps_last = c.a_got_is_silent_or_a_sweep.ensures.sweeps;
        sweeps_nothing = c.a_got_is_silent_or_a_sweep.ensures.silent;
      };
      memory = c.catalogues_in_memory_are_folds.ensures.list;
      turns = c.answers_stay_in_order.ensures.event;
      opens = c.answers_stay_in_order.ensures.opens;
      alone = c.no_line_waits_twice.ensures;
    } in
    moment_runs below start stop whole events runs begun may inside going
