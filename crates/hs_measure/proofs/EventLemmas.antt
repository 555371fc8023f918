-- What a core keeps that stands in a run.
use Rattle.std.proofs.Common.{◌≡◌, sym, subst, ℕ, ◌++◌, List, [], ◌∷◌, Option, Some, None, refl, take}
use Rattle.hs_answered.specs.Standing.{store_with}
use Rattle.hs_answered.specs.Telling.{Judging, Tells}
use Rattle.hs_settled.proofs.BegunLemmas.{with_room}
use Rattle.hs_settled.proofs.DatedLemmas.{prompt_told}
use Rattle.hs_clauses.proofs.FrontLemmas.{answered_front, legal_front}
use Rattle.hs_core_words.specs.Opening.{Taken, new_core, open_core}
use Rattle.hs_core_words.specs.State.{Core}
use Rattle.hs_core_words.specs.Step.{step}
use Rattle.hs_desk.specs.declared.fault.CoreFault.{CoreFault}
use Rattle.hs_settled.proofs.DeletesEventLemmas.{whole_told}
use Rattle.hs_settled.proofs.DeletesRunLemmas.{may_front, steps_ended}
use Rattle.hs_settled.specs.Counts.{CountsRight}
use Rattle.hs_settled.specs.Deletion.{TellsDeletion}
use Rattle.hs_effects.specs.Lawful.{IsLawful}
use Rattle.hs_events.specs.Course.{steps}
use Rattle.hs_events.specs.Due.{Events}
use Rattle.hs_events.specs.Found.{Found, first_core, opens_with}
use Rattle.hs_fold.specs.Runs.Facts.{Catalogue as Folded}
use Rattle.hs_journal.specs.declared.entry.JournalEntry.{JournalEntry}
use Rattle.hs_journal.specs.Events.{client_op}
use Rattle.hs_journal.specs.Order.{IsOrdered}
use Rattle.hs_known_copies.proofs.KnownLemmas.{comes_on, soundly_knows}
use Rattle.hs_laws.specs.Valid.{IsValid}
use Rattle.hs_limits.specs.declared.address.Address.{Address}
use Rattle.hs_limits.specs.declared.limits.Limits.{Limits}
use Rattle.hs_limits.specs.declared.shape.Shape.{Shape}
use Rattle.hs_standing.proofs.AlongWalkLemmas.{come_front}
use Rattle.hs_standing.proofs.FirstRoomLemmas.{first_room}
use Rattle.hs_standing.proofs.LegalOpenLemmas.{folds_valid}
use Rattle.hs_standing.proofs.TakenLemmas.{FoldsInMemory, may_open}
use Rattle.hs_standing.specs.Copies.{AllComeOn}
use Rattle.hs_standing.specs.Held.{GivesAddresses}
use Rattle.hs_standing.specs.Legal.{IsStanding, MayStand}
use Rattle.hs_standing.specs.Opening.{opened_folds}
use Rattle.hs_standing.specs.Opens.{MayOpen}
use Rattle.hs_model.specs.declared.command.Command.{Command}
use Rattle.hs_model.specs.Store.{Store}
use Rattle.hs_measure.specs.Promised.{KeepsPromise}
use Rattle.hs_measure.specs.Zeros.{ZerosRight}
use Rattle.hs_standing.specs.Run.{MayRun, RunBegins, RunStands, RunsBefore}
use Rattle.hs_standing.specs.Standing.{AllMayKeep, judging_of}
use Rattle.hs_standing.specs.Start.{Start}
use Rattle.hs_told.specs.InTurn.{AllMayCome, IsInTurn, after_all, told_of}

-- what is known of cores and events, in one place
pub record EventLaws : Type 0 where
  pub right : (by : Judging) (start : Store) (core : Core) (cs : List Folded) → IsStanding by start core cs → CountsRight by.name core
  pub zeros : (name : List ℕ → Address) (core : Core) (cs : List Folded) → IsLawful name core cs → ZerosRight name core
  pub stands : (by : Judging) (start : Store) (core : Core) (events : Events) (cs : List Folded) → GivesAddresses by.name → IsValid start → core.refused ≡ [] → core.entries ≡ [] → AllComeOn (MayStand by start) core events → IsStanding by start core cs
      → (after : List Folded) × IsStanding by start (steps core events) after
  pub deletes : (by : Judging) (start : Store) (core : Core) (events : Events) (cs : List Folded) → GivesAddresses by.name → IsValid start → core.refused ≡ [] → core.entries ≡ [] → AllComeOn (MayStand by start) core events → IsStanding by start core cs
      → TellsDeletion by start core → (n : ℕ) → TellsDeletion by start (steps core (take n events))
  pub turns : (commands : ℕ → Option Command) (core : Core) (es : Events) → IsInTurn commands core → AllMayCome commands core es → IsInTurn commands (after_all core es)
  pub ordered : (commands : ℕ → Option Command) (core : Core) → IsInTurn commands core → IsOrdered commands (core.journal ++ core.refused)

-- ---- events that may come

pub after_steps : (core : Core) (es : Events) → after_all core es ≡ steps core es
after_steps core [] = refl
after_steps core (e ∷ es) = after_steps (step e.0 e.1 core) es

pub all_come : (start : Start) (es : Events) (core : Core) → AllMayKeep start (MayRun start) core es → AllMayCome start.commands core es
all_come start [] core may = tt
all_come start (e ∷ es) core may = ((λ going. (may.0 going).comes), all_come start es (step e.0 e.1 core) may.1)

-- ---- one core

module _ (laws : EventLaws) (start : Start) (core : Core) (turn : IsInTurn start.commands core) (deletes : TellsDeletion (judging_of start) start.entry core) (its : (cs : List Folded) × RunStands start core cs) where
  abbrev by : Judging
  by = judging_of start

  told : Tells (judging_of start) start.entry (told_of core) (store_with its.0 core.sessions)
  told = subst (λ (es : List JournalEntry). Tells (judging_of start) start.entry es (store_with its.0 core.sessions)) (whole_told core turn.told) its.1.tells

  pub keeps_of : KeepsPromise start core
  keeps_of = record {
    journal = record {
      legal = legal_front by start.entry core.journal core.refused told.legal;
      replied = answered_front by start.entry core.journal core.refused told.answered;
      ordered = turn.journal;
    };
    answers = record { legal = told.legal; replied = told.answered; ordered = laws.ordered start.commands core turn };
    deletes = deletes;
    counts = laws.right by start.entry core its.0 its.1;
    zeros = laws.zeros start.set.name core its.0 its.1.lawful;
    prompt = λ line low prompt. prompt_told start.commands core turn line prompt low;
  }

-- ---- behind each front of events

module _ (start : Start) (core : Core) (events : Events) (r : RunsBefore start core events) (may : AllMayKeep start (MayRun start) core events) where
  pub come : AllComeOn (MayRun start) core events
  come = comes_on (MayRun start) core events r.known (with_room start core events r.few may)

  pub front_keeps : EventLaws → TellsDeletion (judging_of start) start.entry core → (n : ℕ) → KeepsPromise start (steps core (take n events))
  front_keeps laws its n = go core.ended refl
    where
      front : Events
      front = take n events

      go : (o : Option CoreFault) → core.ended ≡ o → KeepsPromise start (steps core (take n events))
      go None going =
          let stands : (cs : List Folded) × RunStands start (steps core front) cs =
          laws.stands (judging_of start) start.entry core front r.folds r.names r.valid (r.turn.going going) r.turn.told (come_front (MayRun start) n events core come) r.stands in
          let turn : IsInTurn start.commands (steps core front) =
          subst (λ (x : Core). IsInTurn start.commands x) (after_steps core front) (laws.turns start.commands core front r.turn (all_come start front core (may_front start events core may n))) in
          keeps_of laws start (steps core front) turn (laws.deletes (judging_of start) start.entry core events r.folds r.names r.valid (r.turn.going going) r.turn.told come r.stands its n) stands
      go (Some fault) over = subst (λ (x : Core). KeepsPromise start x) (sym (steps_ended core front fault over)) (keeps_of laws start core r.turn its (r.folds, r.stands))

-- ---- from opening on

-- what is known of a core that opens
pub record OpenedLaws : Type 0 where
  pub memory : FoldsInMemory
  pub turn : (commands : ℕ → Option Command) (shape : Shape) (limits : Limits) (taken : Taken) (moment : ℕ) → client_op (commands 0) ≡ None → IsInTurn commands (open_core shape limits taken moment)
  pub stands : (by : Judging) (shape : Shape) (taken : Taken) (moment : ℕ) (cs : List Folded) → GivesAddresses by.name → MayOpen by shape taken moment cs → (after : List Folded) × IsStanding by (store_with cs []) (open_core shape by.limits taken moment) after

module _ (laws : OpenedLaws) (start : Start) (found : Found) (b : RunBegins start found) where
  abbrev folds : List Folded
  folds = opened_folds start.set found

  abbrev opens : MayOpen (judging_of start) start.set.shape (opens_with start.set found) found.opened (opened_folds start.set found)
  opens = may_open laws.memory start.set found b.soundly start.commands

  entry_is : store_with folds [] ≡ start.entry
  entry_is = sym b.entry

  stands_first : (cs : List Folded) × RunStands start (first_core start.set found) cs
  stands_first =
      let its = laws.stands (judging_of start) start.set.shape (opens_with start.set found) found.opened folds b.soundly.names opens in
      (its.0, subst (λ (s : Store). IsStanding (judging_of start) s (first_core start.set found) its.0) entry_is its.1)

  pub begins_before : (events : Events) → RunsBefore start (first_core start.set found) events
  begins_before events = record {
    names = b.soundly.names;
    valid = subst (λ (s : Store). IsValid s) entry_is (folds_valid start.set.name (new_core start.set.shape start.set.limits (opens_with start.set found) found.opened) folds opens.lawful);
    turn = laws.turn start.commands start.set.shape start.set.limits (opens_with start.set found) found.opened b.nobody;
    folds = stands_first.0;
    stands = stands_first.1;
    few = λ going. first_room start.set found laws.memory b.soundly.sound;
    known = soundly_knows start.set found b.soundly events;
  }
