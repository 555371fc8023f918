use Rattle.hs_room.proofs.CalmLemmas.{RoomLaws}
use Rattle.hs_room.proofs.EndedLemmas.{ended_beyond, never_beyond}
use Rattle.hs_room.proofs.run.a_run_with_room_is_not_full.Goals as goal
use Rattle.hs_room.proofs.RunLemmas.{full_beyond}

pub returns-clause-soundly : goal.returns-clause-soundly
returns-clause-soundly c = λ S r story run.
    let laws : RoomLaws = record {
      keeps = c.each_event_keeps_the_promise.ensures.run;
      led = c.the_first_shard_enters_for_a_line.ensures;
      memory = c.catalogues_in_memory_are_folds.ensures.list;
    } in
    full_beyond laws S r story run (c.a_run_stands.ensures.events S r story run)

pub returns-clause-ended : goal.returns-clause-ended
returns-clause-ended c = λ S r story fault went over. ended_beyond S r story went fault over

pub returns-clause-never : goal.returns-clause-never
returns-clause-never c = λ S r never. never_beyond S r never
