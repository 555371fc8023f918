use Rattle.hs_measure.proofs.AlongLemmas.{AlongLaws}
use Rattle.hs_measure.proofs.opened.a_cluster_opens_in_a_run.Goals as goal
use Rattle.hs_measure.proofs.OpenedLemmas.{OpeningLaws, OpenLaws, opens_keeps}

pub returns : goal.returns
returns g c = λ set commands span cluster done told shape calm names nobody opens going sound.
    let along : AlongLaws = record {
      events = c.each_event_keeps_the_promise.ensures.events;
      tell = record { reports = c.each_report_tells_its_block.ensures.report; reads = c.a_run_reads_on.ensures.event };
      moves = c.each_operation_goes_on.ensures.events;
    } in
    let opening : OpeningLaws = record {
      memory = c.catalogues_in_memory_are_folds.ensures.list;
      reads = c.a_run_reads_on.ensures.soundly;
      steady = c.a_store_goes_on_steadily.ensures.along;
      lists = c.what_opens_has_its_lists.ensures;
      come = c.a_scripts_events_may_come.ensures.opening;
      fresh = c.a_scripts_lines_are_new.ensures.opening;
    } in
    let laws : OpenLaws = record {
      moves = c.each_operation_goes_on.ensures.opened;
      deletes = c.each_event_keeps_the_rule_of_done.ensures.opens;
      noted = c.each_entry_has_its_cause.ensures.opened;
      next = c.a_scripts_events_may_come.ensures.first;
    } in
    opens_keeps opening g.D.Disk.tells told set commands span cluster done shape calm names nobody opens going sound laws along
