use Rattle.hs_measure.proofs.AlongLemmas.{AlongLaws, LineLaws}
use Rattle.hs_measure.proofs.line.each_line_keeps_the_promise.Goals as goal
use Rattle.hs_measure.proofs.LineLemmas.{keeps, rests}

pub returns-clause-keeps : goal.returns-clause-keeps
returns-clause-keeps g c = λ start line asked since before now old new disks left result told its after next asks later runs.
    let laws : AlongLaws = record {
      events = c.each_event_keeps_the_promise.ensures.events;
      tell = record { reports = c.each_report_tells_its_block.ensures.report; reads = c.a_run_reads_on.ensures.event };
      moves = c.each_operation_goes_on.ensures.events;
    } in
    let lines : LineLaws = record {
      come = c.a_scripts_events_may_come.ensures.lines;
      fresh = c.a_scripts_lines_are_new.ensures.lines;
      asks = c.a_line_asks_as_its_command.ensures;
      steady = c.a_store_goes_on_steadily.ensures.along;
    } in
    keeps lines g.D.Disk.tells told start line asked since before now old new disks left result its after next asks later runs laws

pub returns-clause-rests : goal.returns-clause-rests
returns-clause-rests g c = λ start line asked since before now old new disks left result told its after next asks later runs.
    let laws : AlongLaws = record {
      events = c.each_event_keeps_the_promise.ensures.events;
      tell = record { reports = c.each_report_tells_its_block.ensures.report; reads = c.a_run_reads_on.ensures.event };
      moves = c.each_operation_goes_on.ensures.events;
    } in
    let lines : LineLaws = record {
      come = c.a_scripts_events_may_come.ensures.lines;
      fresh = c.a_scripts_lines_are_new.ensures.lines;
      asks = c.a_line_asks_as_its_command.ensures;
      steady = c.a_store_goes_on_steadily.ensures.along;
    } in
    rests lines g.D.Disk.tells told start line asked since before now old new disks left result its after next asks later runs laws c.a_settle_leaves_nothing_open.ensures
