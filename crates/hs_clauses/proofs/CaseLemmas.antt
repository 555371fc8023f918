-- Each clause of a run, whether a core was opened and went on, ended with its opening, or never was.
use Rattle.std.proofs.Common.{◌≡◌, Option, Some, None, refl}
use Rattle.hs_clauses.proofs.AnswerLemmas.{answers_of, full_of}
use Rattle.hs_clauses.proofs.AskedLemmas.{ReadsBlocks, asked_of, runs_soundly}
use Rattle.hs_clauses.proofs.ComingLemmas.{ComingLaws}
use Rattle.hs_clauses.proofs.EndedLemmas.{ended_answers, ended_full, ended_stops}
use Rattle.hs_clauses.proofs.ReadyLemmas.{LawsHere}
use Rattle.hs_clauses.proofs.StopLemmas.{StopLaws, may_stop}
use Rattle.hs_clauses.proofs.UnopenedLemmas.{never_answers, never_full, never_stops}
use Rattle.hs_clauses.specs.Shown.{IsShownRun, IsToldAs, IsToldRun, RunsSoundly, ShownAs, ToldAs}
use Rattle.hs_desk.specs.declared.fault.CoreFault.{CoreFault}
use Rattle.hs_events.specs.Found.{first_core}
use Rattle.hs_promise.specs.Answers.{Answers}
use Rattle.hs_promise.specs.Causes.{FullCause}
use Rattle.hs_promise.specs.Entry.{IsSoundAtEntry, MayStop, entry_store}
use Rattle.hs_promise.specs.Headers.{KeepsHeaders}
use Rattle.hs_promise.specs.Run.{Ran, Script}
use Rattle.hs_promise.specs.Stops.{Stops}
use Rattle.hs_promise.specs.Story.{Story}
use Rattle.hs_standing.proofs.TakenLemmas.{FoldsInMemory}

-- ---- answers

module _ (laws : LawsHere) (coming : ComingLaws) (reads : ReadsBlocks) (S : Script) (r : Ran) (run : IsToldRun S r) (sound : IsSoundAtEntry S r) where
  soundly : (story : Story) → IsToldAs S r story → (first_core S.set story.found).ended ≡ None → RunsSoundly S r story
  soundly story told going = runs_soundly laws.memory reads S r story run.on told sound going

  pub told_answers : Answers S (entry_store S r) r.journal
  told_answers = by_how run.how run.told
    where
      by_how : (how : Option Story) → ToldAs S r how → Answers S (entry_store S r) r.journal
      by_how None never = never_answers S r never (entry_store S r)
      by_how (Some story) told = by_end (first_core S.set story.found).ended refl
        where
          by_end : (o : Option CoreFault) → (first_core S.set story.found).ended ≡ o → Answers S (entry_store S r) r.journal
          by_end None going = answers_of laws S r story (soundly story told going)
          by_end (Some fault) ended = ended_answers S r story told.went fault ended run.on.nobody coming (entry_store S r)

  pub told_full : FullCause S (entry_store S r) r
  told_full = by_how run.how run.told
    where
      by_how : (how : Option Story) → ToldAs S r how → FullCause S (entry_store S r) r
      by_how None never = never_full S r never (entry_store S r)
      by_how (Some story) told = by_end (first_core S.set story.found).ended refl
        where
          by_end : (o : Option CoreFault) → (first_core S.set story.found).ended ≡ o → FullCause S (entry_store S r) r
          by_end None going = full_of laws S r story (soundly story told going)
          by_end (Some fault) ended = ended_full S r story told.went fault ended run.on.nobody coming (entry_store S r)

-- ---- a stop

pub told_stops : StopLaws → FoldsInMemory → ReadsBlocks → (S : Script) (r : Ran) → IsShownRun S r → KeepsHeaders S r → MayStop S r → Stops S (entry_store S r) r
told_stops laws memory reads S r run keeps may = by_how run.how run.shown
  where
    by_how : (how : Option Story) → ShownAs S r how → Stops S (entry_store S r) r
    by_how None unopened = never_stops S r run.on unopened may keeps
    by_how (Some story) shown = by_end (first_core S.set story.found).ended refl
      where
        by_end : (o : Option CoreFault) → (first_core S.set story.found).ended ≡ o → Stops S (entry_store S r) r
        by_end None going = may_stop laws S r story shown.went (asked_of memory reads S r story run.on may.sound shown going) shown may keeps
        by_end (Some fault) ended = ended_stops S r story shown.went fault ended run.on shown may keeps
