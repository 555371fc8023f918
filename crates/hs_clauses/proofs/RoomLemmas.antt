-- A core that goes on has room for root records.
use Rattle.std.proofs.Common.{◌≡◌, [], ◌∷◌, None}
use Rattle.hs_standing.specs.Walks.{HasRecordRoom}
use Rattle.hs_standing.specs.Answered.{KeepsRecordRoom}
use Rattle.hs_cluster.specs.Rooms.{HaveRecordRoom}
use Rattle.hs_core_words.specs.State.{Core}
use Rattle.hs_core_words.specs.Step.{step}
use Rattle.hs_events.specs.Course.{steps}
use Rattle.hs_events.specs.Due.{Events}

pub keeps_room : (core : Core) (es : Events) → (core.ended ≡ None → HasRecordRoom core) → HaveRecordRoom core es → KeepsRecordRoom core es
keeps_room core [] first rooms = tt
keeps_room core (e ∷ es) first rooms = (first, keeps_room (step e.0 e.1 core) es rooms.0 rooms.1)

pub last_room : (core : Core) (es : Events) → (core.ended ≡ None → HasRecordRoom core) → HaveRecordRoom core es → (steps core es).ended ≡ None → HasRecordRoom (steps core es)
last_room core [] first rooms = first
last_room core (e ∷ es) first rooms = last_room (step e.0 e.1 core) es rooms.0 rooms.1
