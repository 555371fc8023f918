-- What is asked along events, of a front of them and of the rest; moments that rise; and events by which a run keeps standing.
use Rattle.std.proofs.Common.{◌≡◌, sym, subst, ℕ, ◌≤◌, ◌++◌, [], ◌∷◌, Option, Some, None, refl, arith}
use Rattle.hs_standing.specs.Walks.{HasRecordRoom}
use Rattle.hs_answered.specs.Telling.{Judging}
use Rattle.hs_standing.proofs.AddressedLemmas.{AllAddressed}
use Rattle.hs_standing.specs.Answered.{IsAskedAlong, KeepsRecordRoom, TellTheirBlocks}
use Rattle.hs_core_words.specs.declared.event.Event.{Event}
use Rattle.hs_core_words.specs.State.{Core}
use Rattle.hs_core_words.specs.Step.{step}
use Rattle.hs_desk.specs.declared.fault.CoreFault.{CoreFault}
use Rattle.hs_effects.specs.Logged.{MayBeginAll}
use Rattle.hs_events.proofs.GoingLemmas.{step_goes}
use Rattle.hs_events.specs.Course.{steps}
use Rattle.hs_events.specs.Due.{Events, MomentsRise}
use Rattle.hs_standing.proofs.ComingLemmas.{may_stand}
use Rattle.hs_standing.specs.Copies.{AllKnowTheirCopies}
use Rattle.hs_standing.proofs.LinesStepLemmas.{step_ended}
use Rattle.hs_model.specs.Store.{Store}
use Rattle.hs_standing.specs.Run.{MayRun}
use Rattle.hs_standing.specs.Standing.{AllMayKeep, judging_of}
use Rattle.hs_standing.specs.Start.{Start}
use Rattle.hs_told.specs.InTurn.{AllMayCome}

-- ---- what is asked along events

room_front : (core : Core) (es fs : Events) → KeepsRecordRoom core (es ++ fs) → KeepsRecordRoom core es
room_front core [] fs h = tt
room_front core (e ∷ es) fs h = (h.0, room_front (step e.0 e.1 core) es fs h.1)

room_rest : (core : Core) (es fs : Events) → KeepsRecordRoom core (es ++ fs) → KeepsRecordRoom (steps core es) fs
room_rest core [] fs h = h
room_rest core (e ∷ es) fs h = room_rest (step e.0 e.1 core) es fs h.1

pub known_front : (core : Core) (es fs : Events) → AllKnowTheirCopies core (es ++ fs) → AllKnowTheirCopies core es
known_front core [] fs h = tt
known_front core (e ∷ es) fs h = (h.0, known_front (step e.0 e.1 core) es fs h.1)

pub known_rest : (core : Core) (es fs : Events) → AllKnowTheirCopies core (es ++ fs) → AllKnowTheirCopies (steps core es) fs
known_rest core [] fs h = h
known_rest core (e ∷ es) fs h = known_rest (step e.0 e.1 core) es fs h.1

module _ (by : Judging) (start : Store) where
  blocks_front : (core : Core) (es fs : Events) → TellTheirBlocks by start core (es ++ fs) → TellTheirBlocks by start core es
  blocks_front core [] fs h = tt
  blocks_front core (e ∷ es) fs h = (h.0, blocks_front (step e.0 e.1 core) es fs h.1)

  blocks_rest : (core : Core) (es fs : Events) → TellTheirBlocks by start core (es ++ fs) → TellTheirBlocks by start (steps core es) fs
  blocks_rest core [] fs h = h
  blocks_rest core (e ∷ es) fs h = blocks_rest (step e.0 e.1 core) es fs h.1

  pub along_front : (core : Core) (es fs : Events) → IsAskedAlong by start core (es ++ fs) → IsAskedAlong by start core es
  along_front core es fs h = record { room = room_front core es fs h.room; blocks = blocks_front core es fs h.blocks }

  pub along_rest : (core : Core) (es fs : Events) → IsAskedAlong by start core (es ++ fs) → IsAskedAlong by start (steps core es) fs
  along_rest core es fs h = record { room = room_rest core es fs h.room; blocks = blocks_rest core es fs h.blocks }

-- ---- moments

rises_low : (from to : ℕ) (es : Events) → MomentsRise from es to → from ≤ to
rises_low from to [] h = h
rises_low from to (e ∷ es) h = let first = h.0 in let later = rises_low e.1 to es h.1 in omega (arith, first, later)

pub rises_front : (from to : ℕ) (es fs : Events) → MomentsRise from (es ++ fs) to → MomentsRise from es to
rises_front from to [] fs h = rises_low from to fs h
rises_front from to (e ∷ es) fs h = (h.0, rises_front e.1 to es fs h.1)

rises_below : (low from to : ℕ) (es : Events) → low ≤ from → MomentsRise from es to → MomentsRise low es to
rises_below low from to [] below h = let up = h in omega (arith, below, up)
rises_below low from to (e ∷ es) below h = let first = h.0 in (omega (arith, below, first), h.1)

-- a core is no later than the moment of its last event
step_by : (core : Core) (e : Event) (at : ℕ) → core.moment ≤ at → (step e at core).moment ≤ at
step_by core e at low = go core.ended refl
  where
    go : (o : Option CoreFault) → core.ended ≡ o → (step e at core).moment ≤ at
    go None going = let is : (step e at core).moment ≡ at = (step_goes e at core going).moment in omega (arith, is)
    go (Some fault) h = subst (λ (c : Core). c.moment ≤ at) (sym (step_ended e at core fault h)) low

pub rises_rest : (core : Core) (from to : ℕ) (es fs : Events) → core.moment ≤ from → MomentsRise from (es ++ fs) to → MomentsRise (steps core es).moment fs to
rises_rest core from to [] fs low h = rises_below core.moment from to fs low h
rises_rest core from to (e ∷ es) fs low h =
    let first = h.0 in
    rises_rest (step e.0 e.1 core) e.1 to es fs (step_by core e.0 e.1 (omega (arith, low, first))) h.1

-- ---- events by which a run keeps standing

room_after : (core : Core) (es : Events) → KeepsRecordRoom core es → ((steps core es).ended ≡ None → HasRecordRoom (steps core es)) → core.ended ≡ None → HasRecordRoom core
room_after core [] keeps last going = last going
room_after core (e ∷ es) keeps last going = keeps.0 going

module _ (start : Start) where
  pub all_keep : (core : Core) (es : Events) → AllMayCome start.commands core es → MayBeginAll start.set.name es core → AllAddressed (judging_of start) es core
      → IsAskedAlong (judging_of start) start.entry core es → ((steps core es).ended ≡ None → HasRecordRoom (steps core es)) → AllMayKeep start (MayRun start) core es
  all_keep core [] come new addressed along last = tt
  all_keep core (e ∷ es) come new addressed along last = (
    λ going. record {
      comes = come.0 going;
      may = may_stand (judging_of start) start.entry core e.0 e.1 (come.0 going) new.0 addressed.0 (along.blocks.0 going);
      room = room_after (step e.0 e.1 core) es along.room.1 last;
    },
    all_keep (step e.0 e.1 core) es come.1 new.1 addressed.1 (record { room = along.room.1; blocks = along.blocks.1 }) last,
  )
