use Rattle.hs_clauses.proofs.AnswerLemmas.{answers_of, full_of}
use Rattle.hs_clauses.proofs.AskedLemmas.{soundly_of}
use Rattle.hs_clauses.proofs.answered.a_run_is_answered.Goals as goal
use Rattle.hs_clauses.proofs.CaseLemmas.{told_answers, told_full}
use Rattle.hs_clauses.proofs.ComingLemmas.{ComingLaws}
use Rattle.hs_clauses.proofs.ReadyLemmas.{LawsHere}

pub returns-clause-valid : goal.returns-clause-valid
returns-clause-valid c = λ S r sound. sound.sound.valid

pub returns-clause-answers : goal.returns-clause-answers
returns-clause-answers c = λ S r run sound.
    let laws : LawsHere = record {
      opens = c.a_script_is_answered.ensures.opens;
      opening = c.a_script_is_answered.ensures.opening;
      lines = c.a_script_is_answered.ensures.lines;
      answers = c.a_script_is_answered.ensures.answers;
      memory = c.catalogues_in_memory_are_folds.ensures.list;
    } in
    let coming : ComingLaws = record {
      opens = c.answers_stay_in_order.ensures.opens;
      turns = c.answers_stay_in_order.ensures.events;
      full = c.answers_stay_in_order.ensures.with_refused;
      come_opening = c.a_scripts_events_may_come.ensures.opening;
      next_first = c.a_scripts_events_may_come.ensures.first;
      come_lines = c.a_scripts_events_may_come.ensures.lines;
      new_opening = c.a_scripts_lines_are_new.ensures.opening;
      new_lines = c.a_scripts_lines_are_new.ensures.lines;
      asks = c.a_line_asks_as_its_command.ensures;
    } in
    told_answers laws coming c.each_report_tells_its_block.ensures.script S r run sound

pub returns-clause-full : goal.returns-clause-full
returns-clause-full c = λ S r run sound.
    let laws : LawsHere = record {
      opens = c.a_script_is_answered.ensures.opens;
      opening = c.a_script_is_answered.ensures.opening;
      lines = c.a_script_is_answered.ensures.lines;
      answers = c.a_script_is_answered.ensures.answers;
      memory = c.catalogues_in_memory_are_folds.ensures.list;
    } in
    let coming : ComingLaws = record {
      opens = c.answers_stay_in_order.ensures.opens;
      turns = c.answers_stay_in_order.ensures.events;
      full = c.answers_stay_in_order.ensures.with_refused;
      come_opening = c.a_scripts_events_may_come.ensures.opening;
      next_first = c.a_scripts_events_may_come.ensures.first;
      come_lines = c.a_scripts_events_may_come.ensures.lines;
      new_opening = c.a_scripts_lines_are_new.ensures.opening;
      new_lines = c.a_scripts_lines_are_new.ensures.lines;
      asks = c.a_line_asks_as_its_command.ensures;
    } in
    told_full laws coming c.each_report_tells_its_block.ensures.script S r run sound

pub returns-clause-soundly : goal.returns-clause-soundly
returns-clause-soundly c = λ S r story run.
    let laws : LawsHere = record {
      opens = c.a_script_is_answered.ensures.opens;
      opening = c.a_script_is_answered.ensures.opening;
      lines = c.a_script_is_answered.ensures.lines;
      answers = c.a_script_is_answered.ensures.answers;
      memory = c.catalogues_in_memory_are_folds.ensures.list;
    } in
    answers_of laws S r story run

pub returns-clause-refused : goal.returns-clause-refused
returns-clause-refused c = λ S r story run.
    let laws : LawsHere = record {
      opens = c.a_script_is_answered.ensures.opens;
      opening = c.a_script_is_answered.ensures.opening;
      lines = c.a_script_is_answered.ensures.lines;
      answers = c.a_script_is_answered.ensures.answers;
      memory = c.catalogues_in_memory_are_folds.ensures.list;
    } in
    full_of laws S r story run

pub returns-clause-told : goal.returns-clause-told
returns-clause-told c = λ S r story run. soundly_of c.catalogues_in_memory_are_folds.ensures.list c.each_report_tells_its_block.ensures.script S r story run
