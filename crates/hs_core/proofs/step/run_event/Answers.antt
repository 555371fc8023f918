use Rattle.std.proofs.lemmas.Result.{on_ok_weaker}
use Rattle.hs_core_state.proofs.RecordLemmas.{room_at_end}
use Rattle.hs_core.proofs.step.run_event.Goals as goal

pub returns-clause-room : goal.returns-clause-room
returns-clause-room c = on_ok_weaker c.end_event.result (room_at_end c.do_event.new.core c.end_event.new.self c.in_ok-record_room.ensures) c.end_event.ensures.ok
