-- Each event of a run that runs soundly keeps it standing.
use Rattle.std.proofs.Common.{◌≡◌, None}
use Rattle.hs_clauses.proofs.AlongLemmas.{all_keep}
use Rattle.hs_clauses.proofs.ComingLemmas.{ComingLaws, addressed_all, come_all, new_all}
use Rattle.hs_clauses.proofs.RoomLemmas.{keeps_room, last_room}
use Rattle.hs_clauses.specs.Asked.{start_of}
use Rattle.hs_clauses.specs.Shown.{RunsSoundly}
use Rattle.hs_core_words.specs.Records.{HasRecordRoom}
use Rattle.hs_events.specs.Found.{first_core}
use Rattle.hs_promise.specs.Run.{Ran, Script}
use Rattle.hs_promise.specs.Story.{Story, all_events}
use Rattle.hs_standing.proofs.FirstRoomLemmas.{first_room}
use Rattle.hs_standing.proofs.TakenLemmas.{FoldsInMemory}
use Rattle.hs_standing.specs.Run.{MayRun}
use Rattle.hs_standing.specs.Standing.{AllMayKeep}

pub all_kept : ComingLaws → FoldsInMemory → (S : Script) (r : Ran) (story : Story) → RunsSoundly S r story → AllMayKeep (start_of S r) (MayRun (start_of S r)) (first_core S.set story.found) (all_events story)
all_kept laws memory S r story run =
    all_keep (start_of S r) (first_core S.set story.found) (all_events story)
    (come_all laws S r story run.went run.begins.nobody) (new_all laws S r story run.went run.begins.nobody) (addressed_all laws S r story run.went run.begins.nobody)
    (record { room = keeps_room (first_core S.set story.found) (all_events story) few run.rooms; blocks = run.blocks })
    (last_room (first_core S.set story.found) (all_events story) few run.rooms)
  where
    few : (first_core S.set story.found).ended ≡ None → HasRecordRoom (first_core S.set story.found)
    few going = first_room S.set story.found memory run.begins.soundly.sound
