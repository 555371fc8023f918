use Rattle.hs_settled.proofs.DeletesEventLemmas.{LawsBelow}
use Rattle.hs_settled.proofs.PromiseLemmas.{run_deletes}
use Rattle.hs_settled.proofs.kept.a_run_keeps_the_rule_of_done.Goals as goal

pub returns : goal.returns
returns c = λ start found events opens may.
    let below : LawsBelow = record {
      blocks = c.sweep_is_exact.ensures.blocks;
      given = c.sweep_is_exact.ensures.given;
      views = c.views_show_the_store.ensures.shown;
      steps = record {
        first = c.a_step_that_answers_is_the_judges.ensures.first;
        later = c.a_step_that_answers_is_the_judges.ensures.later;
        answered = c.an_answer_is_the_judges.ensures.answered;
        read = c.a_read_is_the_judges.ensures.told;
        write = c.a_write_is_the_judges.ensures;
      };
      laws = record {
        stores = c.a_new_block_is_answered_at_its_effect.ensures;
        marks = c.a_present_block_is_answered_at_its_effect.ensures;
        roots = c.a_root_is_answered_at_its_effect.ensures;
        drops = c.a_drop_is_answered_at_its_effect.ensures;
        deletes = c.a_delete_is_answered_at_its_effect.ensures;
        enters_by_itself = c.an_enter_by_itself_is_told.ensures.enters;
        enters_nothing = c.an_enter_by_itself_is_told.ensures.silent;
        sweeps_last = c.a_got_is_silent_or_a_sweep.ensures.sweeps;
        sweeps_nothing = c.a_got_is_silent_or_a_sweep.ensures.silent;
      };
    } in
    run_deletes below c.catalogues_in_memory_are_folds.ensures.list start found events opens may
