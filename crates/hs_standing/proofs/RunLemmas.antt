-- A run whose journal is legal stands at each moment.
use Rattle.std.proofs.Common.{◌≡◌, ◌∙◌, sym, subst, List, [], length, Option, Some, None, refl}
use Rattle.std.specs.Prelude.{Contains, IsSome}
use Rattle.hs_answered.specs.Standing.{store_with}
use Rattle.hs_core_words.specs.Opening.{new_core}
use Rattle.hs_core_words.specs.State.{Core}
use Rattle.hs_effects.proofs.SweepLemmas.{ByViews}
use Rattle.hs_events.specs.Course.{happened, items_of, steps}
use Rattle.hs_events.specs.Due.{Events}
use Rattle.hs_events.specs.Found.{Found, first_core, opens_with}
use Rattle.hs_events.specs.Whole.{Whole, open_whole}
use Rattle.hs_fold.specs.Runs.Facts.{Catalogue as Folded}
use Rattle.hs_fold.specs.Runs.Opened.{store_of}
use Rattle.hs_fold.specs.Shards.Images.{AreGoodImages, Image, Stop}
use Rattle.hs_standing.specs.Held.{GivesAddresses}
use Rattle.hs_journal.specs.declared.entry.JournalEntry.{JournalEntry}
use Rattle.hs_journal.specs.Events.{client_op}
use Rattle.hs_journal.specs.Moments.{below as below_moment}
use Rattle.hs_laws.specs.Valid.{IsValid}
use Rattle.hs_standing.proofs.Laws.{Entries, Steps}
use Rattle.hs_standing.proofs.LegalOpenLemmas.{folds_valid, standing_new, standing_opens}
use Rattle.hs_standing.proofs.StandingLemmas.{line_beside, standing_again, standing_beside, standing_downed, standing_due, standing_effect, standing_follows, standing_goes, standing_line, standing_refused, standing_round, standing_told, tell_beside}
use Rattle.hs_standing.specs.Bytes.{TellsItsBlock}
use Rattle.hs_standing.specs.Commands.{IsLineOf, IsNobodys}
use Rattle.hs_standing.specs.Legal.{IsStanding}
use Rattle.hs_limits.specs.Shape.{IsShape}
use Rattle.hs_model.specs.declared.course.CourseItem.{CourseItem}
use Rattle.hs_model.specs.declared.op.Op.{Op}
use Rattle.hs_model.specs.Store.{Store}
use Rattle.hs_moments.specs.Joint.{AtMoment}
use Rattle.hs_moments.specs.Machine.{runs, state_at}
use Rattle.hs_moments.specs.WholeMachine.{whole_machine}
use Rattle.hs_standing.proofs.FirstLemmas.{first_held}
use Rattle.hs_standing.proofs.KeepLemmas.{Keeps}
use Rattle.hs_standing.proofs.MomentLemmas.{StaysInTurn, all_stand, moments_stand}
use Rattle.hs_standing.proofs.OpeningLemmas.{OpensInTurn, opened_stands}
use Rattle.hs_standing.proofs.ReopenLemmas.{reopens_where}
use Rattle.hs_standing.proofs.StandLemmas.{NoLineWaitsTwice}
use Rattle.hs_standing.proofs.TakenLemmas.{FoldsInMemory, may_open, runs_soundly}
use Rattle.hs_standing.specs.Opening.{opened_folds}
use Rattle.hs_standing.specs.Run.{IsRunning, MayRun, RunOpens, RunStands}
use Rattle.hs_standing.specs.Standing.{AllMayKeep, AreBegun, CoreStands, IsStateAt, judging_of}
use Rattle.hs_standing.specs.Reopens.{Reopens}
use Rattle.hs_standing.specs.Stands.{StandsWhereGood}
use Rattle.hs_standing.specs.Start.{Start}

-- ---- the laws below, in one place

pub record LawsBelow : Type 0 where
  pub views : ByViews
  pub steps : Steps
  pub laws : Entries
  pub memory : FoldsInMemory
  pub turns : StaysInTurn
  pub opens : OpensInTurn
  pub alone : NoLineWaitsTwice

-- ---- it suffices

some_said : (o : Option Op) (said : Op) → o ≡ Some said → IsSome o
some_said o said e = subst (λ (x : Option Op). IsSome x) (sym e) refl

pub run_suffices : (start : Start) (core : Core) (cs : List Folded) → RunStands start core cs → CoreStands start core cs
run_suffices start core cs its = record {
  orderly = its.orderly;
  folded = its.lawful.folded;
  told = its.tells;
  rested = λ shard place entry at. let r = its.resting shard place entry at in (r.names, r.waits);
  asked = λ line w at. let says = (its.commands line w at).says in some_said (client_op (start.commands line)) says.said says.asks;
}

-- ---- single changes keep it

module _ (below : LawsBelow) (start : Start) (names : GivesAddresses start.set.name) (valid : IsValid start.entry) where
  run_keeps : Keeps start.set.name (λ line o c. IsLineOf (judging_of start) c line o) (TellsItsBlock (judging_of start) start.entry) (IsNobodys (judging_of start)) (λ core cs. RunStands start core cs)
  run_keeps = record {
    orderly = λ c cs its. its.orderly;
    line_beside = λ line o a b beside may. line_beside (judging_of start) start.entry line o a b beside may;
    tell_beside = λ number bytes w a b beside may. tell_beside (judging_of start) start.entry number bytes w a b beside may;
    beside = λ a b cs beside its. standing_beside below.views below.steps below.laws (judging_of start) names start.entry valid a cs its b beside;
    downed = λ peer line c cs its. standing_downed below.views below.steps below.laws (judging_of start) names start.entry valid c cs its peer line;
    refused = λ line refusal c cs nobody its. standing_refused below.views below.steps below.laws (judging_of start) names start.entry valid c cs its line refusal nobody;
    line = λ line o c cs may its. standing_line below.views below.steps below.laws (judging_of start) names start.entry valid c cs its line o may;
    goes = λ line c cs idle its. standing_goes below.views below.steps below.laws (judging_of start) names start.entry valid c cs its line idle;
    told = λ line number bytes w c cs at waits may its. standing_told below.views below.steps below.laws (judging_of start) names start.entry valid c cs its line number bytes w at waits may;
    follows = λ shard number entry c cs low leads few its. standing_follows below.views below.steps below.laws (judging_of start) names start.entry valid c cs its shard number entry low leads few;
    effect = λ shard number entry c cs low leads few its. standing_effect below.views below.steps below.laws (judging_of start) names start.entry valid c cs its shard number entry low leads few;
    due = λ shard c cs low due its. standing_due below.views below.steps below.laws (judging_of start) names start.entry valid c cs its shard low due;
    round = λ number from to epoch round total deltas c cs low at new its. standing_round below.views below.steps below.laws (judging_of start) names start.entry valid c cs its number from to epoch round total deltas low at new;
    again = λ back shard c cs its. standing_again below.views below.steps below.laws (judging_of start) names start.entry valid c cs its back shard;
  }

-- ---- it opens so

-- the store of folds has no session
no_sessions : (cs : List Folded) → store_of cs ≡ store_with cs []
no_sessions cs = refl

entry_valid : (memory : FoldsInMemory) (start : Start) (found : Found) → RunOpens start found → IsValid start.entry
entry_valid memory start found o =
    subst (λ (s : Store). IsValid s) (sym (o.entry ∙ no_sessions (opened_folds start.set found)))
    (folds_valid start.set.name (new_core start.set.shape start.set.limits (opens_with start.set found) found.opened) (opened_folds start.set found) (may_open memory start.set found (runs_soundly start found o) start.commands).lawful)

first_stands : (below : LawsBelow) (start : Start) (found : Found) → RunOpens start found → RunStands start (first_core start.set found) (opened_folds start.set found)
first_stands below start found o =
    first_held (λ core. RunStands start core (opened_folds start.set found))
    (record {
      beside = λ a b beside its. standing_beside below.views below.steps below.laws (judging_of start) o.names start.entry (entry_valid below.memory start found o) a (opened_folds start.set found) its b beside;
      downed = λ peer c its. standing_downed below.views below.steps below.laws (judging_of start) o.names start.entry (entry_valid below.memory start found o) c (opened_folds start.set found) its peer 0;
      views = λ shard c low none its. standing_opens (judging_of start) shard c start.entry (opened_folds start.set found) its low;
    })
    start.set.shape start.set.limits (opens_with start.set found) found.opened
    (subst (λ (s : Store). IsStanding (judging_of start) s (new_core start.set.shape start.set.limits (opens_with start.set found) found.opened) (opened_folds start.set found)) (sym (o.entry ∙ no_sessions (opened_folds start.set found)))
    (standing_new (judging_of start) start.set.shape (opens_with start.set found) found.opened (opened_folds start.set found) (may_open below.memory start.set found (runs_soundly start found o) start.commands)))

-- ---- a run

pub run_opens : (below : LawsBelow) (start : Start) (found : Found) → RunOpens start found → IsRunning start (open_whole start.set found)
run_opens below start found o = record {
  names = o.names;
  valid = entry_valid below.memory start found o;
  stands = opened_stands start found o.well (λ core cs. RunStands start core cs) (run_suffices start) below.opens (first_stands below start found o);
}

module _ (below : LawsBelow) (start : Start) (c : Whole) (r : IsRunning start c) where
  pub run_goes_on : (es : Events) → AllMayKeep start (MayRun start) c.core es → (steps c.core es).ended ≡ None → IsRunning start (runs whole_machine c es)
  run_goes_on es may going = record {
    names = r.names;
    valid = r.valid;
    stands = all_stand start (λ line o core. IsLineOf (judging_of start) core line o) (TellsItsBlock (judging_of start) start.entry) (IsNobodys (judging_of start)) (λ core cs. RunStands start core cs)
        (run_suffices start) (run_keeps below start r.names r.valid) below.turns c es r.stands may going;
  }

  pub run_stands : (stop : Stop) (es : Events) → AreBegun start stop c.core → AllMayKeep start (MayRun start) c.core es → ((i : CourseItem) → Contains (items_of c.core es) i → Contains stop.course i)
      → StandsWhereGood whole_machine start stop (state_at whole_machine c (happened c.core es) stop.moment)
  run_stands stop es begun may inside =
      moments_stand start (λ line o core. IsLineOf (judging_of start) core line o) (TellsItsBlock (judging_of start) start.entry) (IsNobodys (judging_of start)) (λ core cs. RunStands start core cs)
      (run_suffices start) (run_keeps below start r.names r.valid) below.turns below.alone stop c es r.stands may begun inside

  pub run_reopens : (stop : Stop) (es : Events) (journal : List JournalEntry) (images : List Image) → IsShape start.set.shape → start.set.shape.copies ≡ 1 → length stop.disks ≡ start.set.shape.shards
      → AreBegun start stop c.core → AllMayKeep start (MayRun start) c.core es → ((i : CourseItem) → Contains (items_of c.core es) i → Contains stop.course i)
      → AtMoment whole_machine (IsStateAt (state_at whole_machine c (happened c.core es) stop.moment)) start.set.shape stop.course journal stop.moment stop.disks
      → AreGoodImages start.set.shape stop images → Reopens start stop (below_moment stop.moment journal) images
  run_reopens stop es journal images shape one peers begun may inside at good =
      reopens_where start stop journal images (state_at whole_machine c (happened c.core es) stop.moment) shape one peers at (run_stands stop es begun may inside) good
