use Rattle.hs_clauses.proofs.TellLemmas.{reports_right}
use Rattle.hs_clauses.proofs.RunLemmas.{all_tell}
use Rattle.hs_clauses.proofs.ScriptLemmas.{ScriptLaws, script_tells}
use Rattle.hs_clauses.proofs.WholeReadLemmas.{tell_soundly}
use Rattle.hs_clauses.proofs.telling.each_report_tells_its_block.Goals as goal
use Rattle.hs_standing.proofs.RunLemmas.{LawsBelow}

pub returns-clause-told : goal.returns-clause-told
returns-clause-told c = λ start whole events reading come room told.
    let below : LawsBelow = record {
      views = c.views_show_the_store.ensures.shown;
      steps = record {
        first = c.a_step_that_answers_is_the_judges.ensures.first;
        later = c.a_step_that_answers_is_the_judges.ensures.later;
        answered = c.an_answer_is_the_judges.ensures.answered;
        read = c.a_read_is_the_judges.ensures.told;
        write = c.a_write_is_the_judges.ensures;
      };
      laws = record {
        stores = c.a_new_block_is_answered_at_its_effect.ensures;
        marks = c.a_present_block_is_answered_at_its_effect.ensures;
        roots = c.a_root_is_answered_at_its_effect.ensures;
        drops = c.a_drop_is_answered_at_its_effect.ensures;
        deletes = c.a_delete_is_answered_at_its_effect.ensures;
        enters_by_itself = c.an_enter_by_itself_is_told.ensures.enters;
        enters_nothing = c.an_enter_by_itself_is_told.ensures.silent;
        sweeps_last = c.a_got_is_silent_or_a_sweep.ensures.sweeps;
        sweeps_nothing = c.a_got_is_silent_or_a_sweep.ensures.silent;
      };
      memory = c.catalogues_in_memory_are_folds.ensures.list;
      turns = c.answers_stay_in_order.ensures.event;
      opens = c.answers_stay_in_order.ensures.opens;
      alone = c.no_line_waits_twice.ensures;
    } in
    all_tell below start whole events reading come room told

pub returns-clause-script : goal.returns-clause-script
returns-clause-script c = λ start found past done opening lines to opens rise walks are room told.
    let below : LawsBelow = record {
      views = c.views_show_the_store.ensures.shown;
      steps = record {
        first = c.a_step_that_answers_is_the_judges.ensures.first;
        later = c.a_step_that_answers_is_the_judges.ensures.later;
        answered = c.an_answer_is_the_judges.ensures.answered;
        read = c.a_read_is_the_judges.ensures.told;
        write = c.a_write_is_the_judges.ensures;
      };
      laws = record {
        stores = c.a_new_block_is_answered_at_its_effect.ensures;
        marks = c.a_present_block_is_answered_at_its_effect.ensures;
        roots = c.a_root_is_answered_at_its_effect.ensures;
        drops = c.a_drop_is_answered_at_its_effect.ensures;
        deletes = c.a_delete_is_answered_at_its_effect.ensures;
        enters_by_itself = c.an_enter_by_itself_is_told.ensures.enters;
        enters_nothing = c.an_enter_by_itself_is_told.ensures.silent;
        sweeps_last = c.a_got_is_silent_or_a_sweep.ensures.sweeps;
        sweeps_nothing = c.a_got_is_silent_or_a_sweep.ensures.silent;
      };
      memory = c.catalogues_in_memory_are_folds.ensures.list;
      turns = c.answers_stay_in_order.ensures.event;
      opens = c.answers_stay_in_order.ensures.opens;
      alone = c.no_line_waits_twice.ensures;
    } in
    let laws : ScriptLaws = record {
      opening = c.a_scripts_events_may_come.ensures.opening;
      first = c.a_scripts_events_may_come.ensures.first;
      lines = c.a_scripts_events_may_come.ensures.lines;
      opening_new = c.a_scripts_lines_are_new.ensures.opening;
      lines_new = c.a_scripts_lines_are_new.ensures.lines;
      turns = c.answers_stay_in_order.ensures.events;
      asks = c.a_line_asks_as_its_command.ensures;
    } in
    script_tells below laws start found opens past done opening lines to rise walks are room told

pub returns-clause-report : goal.returns-clause-report
returns-clause-report c = λ start w event r told. reports_right start w r event told

pub returns-clause-soundly : goal.returns-clause-soundly
returns-clause-soundly c = λ start found events begins come room told.
    let below : LawsBelow = record {
      views = c.views_show_the_store.ensures.shown;
      steps = record {
        first = c.a_step_that_answers_is_the_judges.ensures.first;
        later = c.a_step_that_answers_is_the_judges.ensures.later;
        answered = c.an_answer_is_the_judges.ensures.answered;
        read = c.a_read_is_the_judges.ensures.told;
        write = c.a_write_is_the_judges.ensures;
      };
      laws = record {
        stores = c.a_new_block_is_answered_at_its_effect.ensures;
        marks = c.a_present_block_is_answered_at_its_effect.ensures;
        roots = c.a_root_is_answered_at_its_effect.ensures;
        drops = c.a_drop_is_answered_at_its_effect.ensures;
        deletes = c.a_delete_is_answered_at_its_effect.ensures;
        enters_by_itself = c.an_enter_by_itself_is_told.ensures.enters;
        enters_nothing = c.an_enter_by_itself_is_told.ensures.silent;
        sweeps_last = c.a_got_is_silent_or_a_sweep.ensures.sweeps;
        sweeps_nothing = c.a_got_is_silent_or_a_sweep.ensures.silent;
      };
      memory = c.catalogues_in_memory_are_folds.ensures.list;
      turns = c.answers_stay_in_order.ensures.event;
      opens = c.answers_stay_in_order.ensures.opens;
      alone = c.no_line_waits_twice.ensures;
    } in
    tell_soundly below start found events begins come room told
