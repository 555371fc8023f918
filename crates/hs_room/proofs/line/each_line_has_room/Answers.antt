use Rattle.hs_measure.proofs.AlongLemmas.{LineLaws}
use Rattle.hs_room.proofs.CallLemmas.{CallLaws}
use Rattle.hs_room.proofs.line.each_line_has_room.Goals as goal
use Rattle.hs_room.proofs.LineLemmas.{line_ends, line_room}

pub returns-clause-keeps : goal.returns-clause-keeps
returns-clause-keeps g c = λ start line asked starts since before now old new disks left result told its after so next asks later runs.
    let laws : CallLaws = record {
      room = c.a_journal_has_room.ensures.events;
      tell = record { reports = c.each_report_tells_its_block.ensures.report; reads = c.a_run_reads_on.ensures.event };
      numbered = c.each_block_is_of_an_entry.ensures.opens;
      stays = c.each_block_is_of_an_entry.ensures.event;
      stored = c.what_is_read_is_sealed.ensures.copies;
    } in
    let lines : LineLaws = record {
      come = c.a_scripts_events_may_come.ensures.lines;
      fresh = c.a_scripts_lines_are_new.ensures.lines;
      asks = c.a_line_asks_as_its_command.ensures;
      steady = c.a_store_goes_on_steadily.ensures.along;
    } in
    line_room laws lines g.D.Disk.tells told start line asked starts since before now old new disks left result its after so next asks later runs

pub returns-clause-ends : goal.returns-clause-ends
returns-clause-ends g c = λ start line asked starts since before now old new disks left result told its after so next asks later runs most enough fits.
    let laws : CallLaws = record {
      room = c.a_journal_has_room.ensures.events;
      tell = record { reports = c.each_report_tells_its_block.ensures.report; reads = c.a_run_reads_on.ensures.event };
      numbered = c.each_block_is_of_an_entry.ensures.opens;
      stays = c.each_block_is_of_an_entry.ensures.event;
      stored = c.what_is_read_is_sealed.ensures.copies;
    } in
    let lines : LineLaws = record {
      come = c.a_scripts_events_may_come.ensures.lines;
      fresh = c.a_scripts_lines_are_new.ensures.lines;
      asks = c.a_line_asks_as_its_command.ensures;
      steady = c.a_store_goes_on_steadily.ensures.along;
    } in
    line_ends laws lines g.D.Disk.tells told start line asked starts since before now old new disks left result its after so next asks later runs most enough fits
