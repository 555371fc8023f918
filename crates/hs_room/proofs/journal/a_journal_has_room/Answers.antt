use Rattle.hs_room.proofs.CalmLemmas.{RoomLaws, room_at}
use Rattle.hs_room.proofs.journal.a_journal_has_room.Goals as goal
use Rattle.hs_room.proofs.RiseLemmas.{most_rises}

pub returns-clause-events : goal.returns-clause-events
returns-clause-events c = λ start found events begins may own n.
    let laws : RoomLaws = record {
      keeps = c.each_event_keeps_the_promise.ensures.run;
      led = c.the_first_shard_enters_for_a_line.ensures;
      memory = c.catalogues_in_memory_are_folds.ensures.list;
    } in
    room_at laws start found events begins may own n

pub returns-clause-rises : goal.returns-clause-rises
returns-clause-rises c = λ commands shape low high up. most_rises commands shape low high up
