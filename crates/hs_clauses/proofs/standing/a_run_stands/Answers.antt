use Rattle.hs_clauses.proofs.AskedLemmas.{IsAskedOf, asked_of, begins_at_entry, run_opens, runs_soundly}
use Rattle.hs_clauses.proofs.ComingLemmas.{ComingLaws}
use Rattle.hs_clauses.proofs.KeptRunLemmas.{all_kept}
use Rattle.hs_clauses.proofs.standing.a_run_stands.Goals as goal

pub returns-clause-opens : goal.returns-clause-opens
returns-clause-opens c = λ S r story on shown sound going.
    let asked : IsAskedOf S r story = asked_of c.catalogues_in_memory_are_folds.ensures.list c.each_report_tells_its_block.ensures.script S r story on sound shown going in
    run_opens S r story asked

pub returns-clause-keeps : goal.returns-clause-keeps
returns-clause-keeps c = λ S r story on shown sound going.
    let coming : ComingLaws = record {
      opens = c.answers_stay_in_order.ensures.opens;
      turns = c.answers_stay_in_order.ensures.events;
      full = c.answers_stay_in_order.ensures.with_refused;
      come_opening = c.a_scripts_events_may_come.ensures.opening;
      next_first = c.a_scripts_events_may_come.ensures.first;
      come_lines = c.a_scripts_events_may_come.ensures.lines;
      new_opening = c.a_scripts_lines_are_new.ensures.opening;
      new_lines = c.a_scripts_lines_are_new.ensures.lines;
      asks = c.a_line_asks_as_its_command.ensures;
    } in
    let asked : IsAskedOf S r story = asked_of c.catalogues_in_memory_are_folds.ensures.list c.each_report_tells_its_block.ensures.script S r story on sound shown going in
    all_kept coming c.catalogues_in_memory_are_folds.ensures.list S r story asked.runs

pub returns-clause-soundly : goal.returns-clause-soundly
returns-clause-soundly c = λ S r story on told sound going.
    runs_soundly c.catalogues_in_memory_are_folds.ensures.list c.each_report_tells_its_block.ensures.script S r story on told sound going

pub returns-clause-events : goal.returns-clause-events
returns-clause-events c = λ S r story run.
    let coming : ComingLaws = record {
      opens = c.answers_stay_in_order.ensures.opens;
      turns = c.answers_stay_in_order.ensures.events;
      full = c.answers_stay_in_order.ensures.with_refused;
      come_opening = c.a_scripts_events_may_come.ensures.opening;
      next_first = c.a_scripts_events_may_come.ensures.first;
      come_lines = c.a_scripts_events_may_come.ensures.lines;
      new_opening = c.a_scripts_lines_are_new.ensures.opening;
      new_lines = c.a_scripts_lines_are_new.ensures.lines;
      asks = c.a_line_asks_as_its_command.ensures;
    } in
    all_kept coming c.catalogues_in_memory_are_folds.ensures.list S r story run

pub returns-clause-begins : goal.returns-clause-begins
returns-clause-begins c = λ S r story on went read sound going. begins_at_entry S r story went read on sound going
