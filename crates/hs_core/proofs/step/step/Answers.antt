use Rattle.hs_core_words.specs.Records.{HasRecordRoom}
use Rattle.hs_core_state.proofs.RecordLemmas.{on_ok_anyway}
use Rattle.hs_core.proofs.step.step.Goals as goal

pub returns-in-Ok-clause-room : goal.returns-in-Ok-clause-room
returns-in-Ok-clause-room c = on_ok_anyway (HasRecordRoom c.run_event.new.core) c.outcome.result c.in-Ok.ensures.room
