-- So it is along a run.
use Rattle.std.proofs.Common.{◌≡◌, ◌∙◌, sym, ap, subst, ℕ, zero, suc, List, [], ◌∷◌, Option, Some, None, refl, take}
use Rattle.hs_answered.specs.Standing.{store_with}
use Rattle.hs_answered.specs.Telling.{Judging}
use Rattle.hs_core_words.specs.declared.event.Event.{Event}
use Rattle.hs_core_words.specs.Opening.{Taken, new_core, open_core}
use Rattle.hs_core_words.specs.State.{Core}
use Rattle.hs_core_words.specs.Step.{step}
use Rattle.hs_settled.proofs.DeletesEventLemmas.{LawsBelow, event_deletes}
use Rattle.hs_settled.proofs.DeletesOpenLemmas.{opens_deletes}
use Rattle.hs_settled.specs.Deletion.{TellsDeletion}
use Rattle.hs_desk.specs.declared.fault.CoreFault.{CoreFault}
use Rattle.hs_events.specs.Course.{steps}
use Rattle.hs_events.specs.Due.{Events}
use Rattle.hs_fold.specs.Runs.Facts.{Catalogue as Folded}
use Rattle.hs_laws.specs.Valid.{IsValid}
use Rattle.hs_limits.specs.declared.shape.Shape.{Shape}
use Rattle.hs_model.specs.Store.{Store}
use Rattle.hs_standing.proofs.AlongWalkLemmas.{along as along_events, come_front}
use Rattle.hs_standing.proofs.LegalEventLemmas.{copies_stand}
use Rattle.hs_standing.proofs.LegalOpenLemmas.{folds_valid, opened}
use Rattle.hs_standing.proofs.LinesStepLemmas.{step_ended}
use Rattle.hs_standing.specs.Copies.{AllComeOn, ComesOn}
use Rattle.hs_standing.specs.Held.{GivesAddresses}
use Rattle.hs_standing.specs.Legal.{IsStanding, MayStand}
use Rattle.hs_standing.specs.Opens.{MayOpen}
use Rattle.hs_standing.specs.Run.{MayRun}
use Rattle.hs_standing.specs.Standing.{AllMayKeep}
use Rattle.hs_standing.specs.Start.{Start}
use Rattle.hs_told.proofs.OpenedLemmas.{opened_turn}
use Rattle.hs_told.specs.InTurn.{IsInTurn}

-- behind its end a core stays as it is
pub steps_ended : (core : Core) (es : Events) (fault : CoreFault) → core.ended ≡ Some fault → steps core es ≡ core
steps_ended core [] fault over = refl
steps_ended core (e ∷ es) fault over = ap (λ (c : Core). steps c es) (step_ended e.0 e.1 core fault over) ∙ steps_ended core es fault over

-- ---- along events, for any number of copies

-- a core stands, and keeps the rule
pub record StandsKept (by : Judging) (start : Store) (core : Core) : Type 0 where
  pub stands : (cs : List Folded) × IsStanding by start core cs
  pub kept : TellsDeletion by start core

all_delete : LawsBelow → (by : Judging) (start : Store) → GivesAddresses by.name → IsValid start → (core : Core) (es : Events) → core.refused ≡ [] → core.entries ≡ [] → AllComeOn (MayStand by start) core es → StandsKept by start core
    → StandsKept by start (steps core es)
all_delete below by start names valid core es clean told may its = along_events (MayStand by start) (λ c. StandsKept by start c) next es core clean told may its
  where
    next : (e : Event) (at : ℕ) (c : Core) → c.ended ≡ None → c.refused ≡ [] → c.entries ≡ [] → ComesOn (MayStand by start) e c → StandsKept by start c → StandsKept by start (step e at c)
    next e at c going none quiet comes p = record {
      stands = copies_stand below.views below.steps below.laws by names start valid c e at going comes.seated comes.known comes.room none comes.may p.stands;
      kept = event_deletes below by start names valid c e at p.stands.0 going comes.seated comes.known comes.room quiet none comes.may p.stands.1 p.kept;
    }

-- behind each front of them
pub copies_delete : LawsBelow → (by : Judging) (start : Store) → GivesAddresses by.name → IsValid start → (core : Core) (es : Events) → core.refused ≡ [] → core.entries ≡ [] → AllComeOn (MayStand by start) core es → StandsKept by start core
    → (n : ℕ) → TellsDeletion by start (steps core (take n es))
copies_delete below by start names valid core es clean told may its n =
    let all : StandsKept by start (steps core (take n es)) = all_delete below by start names valid core (take n es) clean told (come_front (MayStand by start) n es core may) its in
    all.kept

-- and from opening on
pub opened_copies_delete : LawsBelow → (by : Judging) → GivesAddresses by.name → (shape : Shape) (taken : Taken) (moment : ℕ) (cs : List Folded) → MayOpen by shape taken moment cs → (es : Events)
    → AllComeOn (MayStand by (store_with cs [])) (open_core shape by.limits taken moment) es → TellsDeletion by (store_with cs []) (steps (open_core shape by.limits taken moment) es)
opened_copies_delete below by names shape taken moment cs may es come = go core.ended refl
  where
    core : Core
    core = open_core shape by.limits taken moment

    turn : IsInTurn (λ n. None) (open_core shape by.limits taken moment)
    turn = opened_turn (λ n. None) shape by.limits taken moment refl

    first : StandsKept by (store_with cs []) (open_core shape by.limits taken moment)
    first = record {
      stands = opened below.views below.steps below.laws by names shape taken moment cs may;
      kept = opens_deletes shape by.limits taken moment by (store_with cs []);
    }

    go : (o : Option CoreFault) → core.ended ≡ o → TellsDeletion by (store_with cs []) (steps core es)
    go (Some fault) over = subst (λ (c : Core). TellsDeletion by (store_with cs []) c) (sym (steps_ended core es fault over)) first.kept
    go None going =
        let all : StandsKept by (store_with cs []) (steps core es) =
        all_delete below by (store_with cs []) names (folds_valid by.name (new_core shape by.limits taken moment) cs may.lawful) core es (turn.going going) turn.told come first in
        all.kept

-- ---- a front of events that may come

pub may_front : (start : Start) (es : Events) (core : Core) → AllMayKeep start (MayRun start) core es → (n : ℕ) → AllMayKeep start (MayRun start) core (take n es)
may_front start [] core may zero = tt
may_front start [] core may (suc n) = tt
may_front start (e ∷ es) core may zero = tt
may_front start (e ∷ es) core may (suc n) = (may.0, may_front start es (step e.0 e.1 core) may.1 n)
