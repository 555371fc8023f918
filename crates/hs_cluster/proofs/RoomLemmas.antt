-- That a core which goes on has room: behind one event, and behind some and others.
use Rattle.std.proofs.Common.{◌≡◌, ◌∙◌, sym, subst, ℕ, [], ◌∷◌, ◌++◌, None, Some}
use Rattle.hs_cluster.specs.Rooms.{HaveRecordRoom}
use Rattle.hs_core_words.specs.declared.event.Event.{Event}
use Rattle.hs_core_words.specs.Records.{HasRecordRoom}
use Rattle.hs_core_words.specs.State.{Core}
use Rattle.hs_core_words.specs.Step.{step}
use Rattle.hs_desk.specs.declared.fault.CoreFault.{CoreFault}
use Rattle.hs_events.specs.Course.{steps}
use Rattle.hs_events.specs.Due.{Events}

none_is_some : {P : Type 0} (fault : CoreFault) → None ≡ Some fault → P
none_is_some fault e = absurd (never e)
  where
    never : None ≡ Some fault → ⊥
    never e = cc e

-- of one event, by the core that it left
pub room_one : (e : Event × ℕ) (core new : Core) → new ≡ step e.0 e.1 core → (new.ended ≡ None → HasRecordRoom new) → HaveRecordRoom core (e ∷ [])
room_one e core new is room = (subst (λ (c : Core). c.ended ≡ None → HasRecordRoom c) is room, tt)

-- a core that has ended owes none
pub room_ended : (new : Core) (fault : CoreFault) → new.ended ≡ Some fault → new.ended ≡ None → HasRecordRoom new
room_ended new fault ended going = none_is_some fault (sym going ∙ ended)

pub rooms_then : (core : Core) (es fs : Events) → HaveRecordRoom core es → HaveRecordRoom (steps core es) fs → HaveRecordRoom core (es ++ fs)
rooms_then core [] fs one two = two
rooms_then core (e ∷ es) fs one two = (one.0, rooms_then (step e.0 e.1 core) es fs one.1 two)
