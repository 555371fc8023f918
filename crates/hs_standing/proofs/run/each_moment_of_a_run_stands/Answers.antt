use Rattle.hs_standing.proofs.RunLemmas.{LawsBelow, run_reopens, run_stands}
use Rattle.hs_standing.proofs.run.each_moment_of_a_run_stands.Goals as goal

below_of : (c : goal.After-catalogues_in_memory_are_folds) → LawsBelow
below_of c = record {
  views = c.views_show_the_store.ensures.shown;
  steps = record {
    first = c.a_step_that_answers_is_the_judges.ensures.first;
    later = c.a_step_that_answers_is_the_judges.ensures.later;
    answered = c.an_answer_is_the_judges.ensures.answered;
    read = c.a_read_is_the_judges.ensures.told;
    write = c.a_write_is_the_judges.ensures;
  };
  laws = record {
    stores = c.a_new_block_is_answered_at_its_effect.ensures;
    marks = c.a_present_block_is_answered_at_its_effect.ensures;
    roots = c.a_root_is_answered_at_its_effect.ensures;
    drops = c.a_drop_is_answered_at_its_effect.ensures;
    deletes = c.a_delete_is_answered_at_its_effect.ensures;
    enters_by_itself = c.an_enter_by_itself_is_told.ensures.enters;
    enters_nothing = c.an_enter_by_itself_is_told.ensures.silent;
    sweeps_last = c.a_got_is_silent_or_a_sweep.ensures.sweeps;
    sweeps_nothing = c.a_got_is_silent_or_a_sweep.ensures.silent;
  };
  memory = c.catalogues_in_memory_are_folds.ensures.list;
  turns = c.answers_stay_in_order.ensures.event;
  opens = c.answers_stay_in_order.ensures.opens;
  alone = c.no_line_waits_twice.ensures;
}

pub returns-clause-stands : goal.returns-clause-stands
returns-clause-stands c = λ start stop whole events running begun may inside.
    run_stands (below_of c) start whole running stop events begun may inside

pub returns-clause-reopens : goal.returns-clause-reopens
returns-clause-reopens c = λ start stop whole events journal images shape one peers running begun may inside at good.
    run_reopens (below_of c) start whole running stop events journal images shape one peers begun may inside at good
