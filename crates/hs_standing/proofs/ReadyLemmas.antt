-- What is ready stays so along events, and what it has told are answers.
use Rattle.std.proofs.Common.{◌≡◌, ◌∙◌, ap, sym, subst, ℕ, ◌++◌, List, [], ◌∷◌, Option, Some, None, refl, append-nil}
use Rattle.hs_standing.specs.Walks.{HasRecordRoom}
use Rattle.hs_answered.specs.Standing.{store_with}
use Rattle.hs_answered.specs.Telling.{Judging, Tells}
use Rattle.hs_standing.proofs.AddressedLemmas.{AllAddressed}
use Rattle.hs_standing.specs.Answered.{AreAnswers, IsAskedAlong, IsReady}
use Rattle.hs_core_words.specs.declared.event.Event.{Event}
use Rattle.hs_core_words.specs.State.{Core}
use Rattle.hs_core_words.specs.Step.{step}
use Rattle.hs_desk.specs.declared.fault.CoreFault.{CoreFault}
use Rattle.hs_effects.specs.Logged.{MayBegin, MayBeginAll}
use Rattle.hs_events.specs.Course.{steps}
use Rattle.hs_events.specs.Due.{Events}
use Rattle.hs_fold.specs.Runs.Facts.{Catalogue as Folded}
use Rattle.hs_journal.specs.declared.entry.JournalEntry.{JournalEntry}
use Rattle.hs_standing.proofs.ComingLemmas.{may_stand}
use Rattle.hs_standing.specs.Coming.{ComesAddressed, ReportsBlocks}
use Rattle.hs_standing.specs.Copies.{AllKnowTheirCopies, IsSeated, KnowsItsCopies}
use Rattle.hs_standing.specs.Legal.{IsStanding, MayStand}
use Rattle.hs_standing.proofs.LinesStepLemmas.{step_ended}
use Rattle.hs_model.specs.Store.{Store}
use Rattle.hs_told.proofs.OrderLemmas.{step_turn}
use Rattle.hs_told.specs.InTurn.{AllMayCome, MayCome, told_of}

-- what an event that may come leaves
abbrev pub KeepsStanding : Judging → Store → Type 0
KeepsStanding by start =
    (core : Core) (e : Event) (moment : ℕ) (cs : List Folded) → core.ended ≡ None → IsSeated core → KnowsItsCopies core → HasRecordRoom core → core.refused ≡ [] → MayStand by start e core → IsStanding by start core cs
    → (after : List Folded) × IsStanding by start (step e moment core) after

module _ (by : Judging) (start : Store) (keeps : KeepsStanding by start) where
  -- one event
  stands_on : (core : Core) (e : Event) (at : ℕ) → IsReady by start core → (core.ended ≡ None → MayCome by.commands core e at) → MayBegin by.name e core → ComesAddressed by e core
      → (core.ended ≡ None → IsSeated core × KnowsItsCopies core) → (core.ended ≡ None → HasRecordRoom core) → (core.ended ≡ None → ReportsBlocks by start e core)
      → (after : List Folded) × IsStanding by start (step e at core) after
  stands_on core e at ready come new addressed known room blocks = go core.ended refl
    where
      go : (x : Option CoreFault) → core.ended ≡ x → (after : List Folded) × IsStanding by start (step e at core) after
      go None going =
          keeps core e at ready.folds going (known going).0 (known going).1 (room going) (ready.turn.going going)
          (may_stand by start core e at (come going) new addressed (blocks going)) ready.stands
      go (Some fault) over = (ready.folds, subst (λ (c : Core). IsStanding by start c ready.folds) (sym (step_ended e at core fault over)) ready.stands)

  -- and any number, one after another
  pub all_ready : (core : Core) (es : Events) → IsReady by start core → AllMayCome by.commands core es → MayBeginAll by.name es core → AllAddressed by es core
      → AllKnowTheirCopies core es → IsAskedAlong by start core es → IsReady by start (steps core es)
  all_ready core [] ready come new addressed known along = ready
  all_ready core (e ∷ es) ready come new addressed known along =
      let on : (after : List Folded) × IsStanding by start (step e.0 e.1 core) after = stands_on core e.0 e.1 ready come.0 new.0 addressed.0 known.0 along.room.0 along.blocks.0 in
      all_ready (step e.0 e.1 core) es (record { turn = step_turn by.commands e.0 e.1 core ready.turn come.0; folds = on.0; stands = on.1 }) come.1 new.1 addressed.1 known.1
      (record { room = along.room.1; blocks = along.blocks.1 })

-- what was told, with what found the journal full
pub are_answers : (by : Judging) (start : Store) (core : Core) → IsReady by start core → AreAnswers by start (told_of core)
are_answers by start core ready =
    let tells : Tells by start (told_of core) (store_with ready.folds core.sessions) =
    subst (λ (entries : List JournalEntry). Tells by start entries (store_with ready.folds core.sessions))
    (ap (λ (entries : List JournalEntry). told_of core ++ entries) ready.turn.told ∙ append-nil (told_of core)) ready.stands.tells in
    record { legal = tells.legal; replied = tells.answered; ordered = ready.turn.turns.ordered }
