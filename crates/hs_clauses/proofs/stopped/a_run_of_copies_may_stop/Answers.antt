use Rattle.hs_clauses.proofs.ComingLemmas.{ComingLaws}
use Rattle.hs_clauses.proofs.CopiesStopLemmas.{CopiesStopLaws, copies_may_stop}
use Rattle.hs_clauses.proofs.stopped.a_run_of_copies_may_stop.Goals as goal

pub returns : goal.returns
returns c = λ S r run keeps may copies.
    let coming : ComingLaws = record {
      opens = c.answers_stay_in_order.ensures.opens;
      turns = c.answers_stay_in_order.ensures.events;
      full = c.answers_stay_in_order.ensures.with_refused;
      come_opening = c.a_scripts_events_may_come.ensures.opening;
      next_first = c.a_scripts_events_may_come.ensures.first;
      come_lines = c.a_scripts_events_may_come.ensures.lines;
      new_opening = c.a_scripts_lines_are_new.ensures.opening;
      new_lines = c.a_scripts_lines_are_new.ensures.lines;
      asks = c.a_line_asks_as_its_command.ensures;
    } in
    let laws : CopiesStopLaws = record {
      coming = coming;
      memory = c.catalogues_in_memory_are_folds.ensures.list;
      reads = c.each_report_tells_its_block.ensures.script;
      reopens = c.each_moment_of_copies_reopens.ensures;
    } in
    copies_may_stop laws S r run keeps may copies
