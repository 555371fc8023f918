use Rattle.hs_measure.proofs.OpenedLemmas.{OpeningLaws}
use Rattle.hs_room.proofs.CallLemmas.{CallLaws}
use Rattle.hs_room.proofs.opened.a_cluster_opens_with_room.Goals as goal
use Rattle.hs_room.proofs.OpenedLemmas.{opened_ends, opened_room}

pub returns-clause-keeps : goal.returns-clause-keeps
returns-clause-keeps g c = λ set commands span cluster done told shape calm names nobody opens going sound.
    let opening : OpeningLaws = record {
      memory = c.catalogues_in_memory_are_folds.ensures.list;
      reads = c.a_run_reads_on.ensures.soundly;
      steady = c.a_store_goes_on_steadily.ensures.along;
      lists = c.what_opens_has_its_lists.ensures;
      come = c.a_scripts_events_may_come.ensures.opening;
      fresh = c.a_scripts_lines_are_new.ensures.opening;
    } in
    let laws : CallLaws = record {
      room = c.a_journal_has_room.ensures.events;
      tell = record { reports = c.each_report_tells_its_block.ensures.report; reads = c.a_run_reads_on.ensures.event };
      numbered = c.each_block_is_of_an_entry.ensures.opens;
      stays = c.each_block_is_of_an_entry.ensures.event;
      stored = c.what_is_read_is_sealed.ensures.copies;
    } in
    opened_room opening laws g.D.Disk.tells told set commands span cluster done shape calm names nobody opens going sound

pub returns-clause-ends : goal.returns-clause-ends
returns-clause-ends g c = λ set commands span cluster done told shape calm names nobody opens going sound fits.
    let opening : OpeningLaws = record {
      memory = c.catalogues_in_memory_are_folds.ensures.list;
      reads = c.a_run_reads_on.ensures.soundly;
      steady = c.a_store_goes_on_steadily.ensures.along;
      lists = c.what_opens_has_its_lists.ensures;
      come = c.a_scripts_events_may_come.ensures.opening;
      fresh = c.a_scripts_lines_are_new.ensures.opening;
    } in
    let laws : CallLaws = record {
      room = c.a_journal_has_room.ensures.events;
      tell = record { reports = c.each_report_tells_its_block.ensures.report; reads = c.a_run_reads_on.ensures.event };
      numbered = c.each_block_is_of_an_entry.ensures.opens;
      stays = c.each_block_is_of_an_entry.ensures.event;
      stored = c.what_is_read_is_sealed.ensures.copies;
    } in
    opened_ends opening laws g.D.Disk.tells told set commands span cluster done shape calm names nobody opens going sound fits
