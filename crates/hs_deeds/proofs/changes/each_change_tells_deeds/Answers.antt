use Rattle.hs_deeds.proofs.ChangeLemmas.{effect_tells, goes_tells, line_tells, told_tells}
use Rattle.hs_standing.proofs.Laws.{Entries, Steps}
use Rattle.hs_deeds.proofs.changes.each_change_tells_deeds.Goals as goal

pub returns-clause-line : goal.returns-clause-line
returns-clause-line c = λ name limits cs core line o same folded order asked.
    let steps : Steps = record {
      first = c.a_step_that_answers_is_the_judges.ensures.first;
      later = c.a_step_that_answers_is_the_judges.ensures.later;
      answered = c.an_answer_is_the_judges.ensures.answered;
      read = c.a_read_is_the_judges.ensures.told;
      write = c.a_write_is_the_judges.ensures;
    } in
    line_tells steps name limits cs core line o same folded order asked

pub returns-clause-goes : goal.returns-clause-goes
returns-clause-goes c = λ by cs core line limits folded order commands.
    let steps : Steps = record {
      first = c.a_step_that_answers_is_the_judges.ensures.first;
      later = c.a_step_that_answers_is_the_judges.ensures.later;
      answered = c.an_answer_is_the_judges.ensures.answered;
      read = c.a_read_is_the_judges.ensures.told;
      write = c.a_write_is_the_judges.ensures;
    } in
    goes_tells steps by cs core line limits folded order commands

pub returns-clause-told : goal.returns-clause-told
returns-clause-told c = λ by cs core line bytes w limits folded order commands at.
    let steps : Steps = record {
      first = c.a_step_that_answers_is_the_judges.ensures.first;
      later = c.a_step_that_answers_is_the_judges.ensures.later;
      answered = c.an_answer_is_the_judges.ensures.answered;
      read = c.a_read_is_the_judges.ensures.told;
      write = c.a_write_is_the_judges.ensures;
    } in
    told_tells c.views_show_the_store.ensures.shown steps c.a_read_is_the_judges.ensures.whatever by cs core line bytes w limits folded order commands at

pub returns-clause-effect : goal.returns-clause-effect
returns-clause-effect c = λ by cs core shard number entry limits lawful order holds commands epochs points leads may.
    let steps : Steps = record {
      first = c.a_step_that_answers_is_the_judges.ensures.first;
      later = c.a_step_that_answers_is_the_judges.ensures.later;
      answered = c.an_answer_is_the_judges.ensures.answered;
      read = c.a_read_is_the_judges.ensures.told;
      write = c.a_write_is_the_judges.ensures;
    } in
    let laws : Entries = record {
      stores = c.a_new_block_is_answered_at_its_effect.ensures;
      marks = c.a_present_block_is_answered_at_its_effect.ensures;
      roots = c.a_root_is_answered_at_its_effect.ensures;
      drops = c.a_drop_is_answered_at_its_effect.ensures;
      deletes = c.a_delete_is_answered_at_its_effect.ensures;
      enters_by_itself = c.an_enter_by_itself_is_told.ensures.enters;
      enters_nothing = c.an_enter_by_itself_is_told.ensures.silent;
      sweeps_last = c.a_got_is_silent_or_a_sweep.ensures.sweeps;
      sweeps_nothing = c.a_got_is_silent_or_a_sweep.ensures.silent;
    } in
    effect_tells c.views_show_the_store.ensures.shown c.views_show_the_store.ensures.pointers steps laws by cs core shard number entry limits lawful order holds commands epochs points leads may
