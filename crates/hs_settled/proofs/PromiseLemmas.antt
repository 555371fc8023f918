-- In the words of the promise.
use Rattle.std.proofs.Common.{◌≡◌, ◌∙◌, sym, ap, subst, ℕ, ◌+◌, List, Some}
use Rattle.hs_answered.specs.Telling.{Judging}
use Rattle.hs_core_words.specs.State.{Core}
use Rattle.hs_core_words.specs.Opening.{Taken, open_core}
use Rattle.hs_settled.proofs.BegunLemmas.{come_there, opens}
use Rattle.hs_settled.proofs.DeletesEventLemmas.{LawsBelow}
use Rattle.hs_settled.proofs.DeletesRunLemmas.{opened_copies_delete, steps_ended}
use Rattle.hs_settled.specs.Deletion.{TellsDeletion}
use Rattle.hs_desk.specs.declared.fault.CoreFault.{CoreFault}
use Rattle.hs_events.specs.Course.{steps}
use Rattle.hs_events.specs.Due.{Events}
use Rattle.hs_events.specs.Found.{Found, first_core, opens_with}
use Rattle.hs_journal.specs.declared.entry.JournalEntry.{JournalEntry}
use Rattle.hs_limits.specs.declared.limits.Limits.{Limits}
use Rattle.hs_limits.specs.declared.shape.Shape.{Shape}
use Rattle.hs_model.specs.Store.{Store}
use Rattle.hs_promise.specs.Deletes.{Deletes, EndsRun, IsDoneAt}
use Rattle.hs_promise.specs.Machine.{NeverOpened, Went}
use Rattle.hs_promise.specs.Run.{Ran, Script}
use Rattle.hs_promise.specs.Story.{Story, all_events, last_core}
use Rattle.hs_standing.specs.Opening.{opened_folds}
use Rattle.hs_standing.proofs.TakenLemmas.{FoldsInMemory}
use Rattle.hs_standing.specs.Run.{MayRun, RunBegins}
use Rattle.hs_standing.specs.Standing.{AllMayKeep, judging_of}
use Rattle.hs_standing.specs.Start.{Start}
use Rattle.hs_swept.proofs.DoneLemmas.{none_swept}
use Rattle.hs_swept.specs.Swept.{AreSwept}
use Rattle.hs_swept.specs.Swept.{EndsRun as EndsThere, IsDoneAt as IsDoneThere}

-- by what the journal of a script is judged
abbrev judging : Script → Judging
judging S = record { commands = S.commands; name = S.set.name; limits = S.set.limits }

module _ (S : Script) (entry : Store) (r : Ran) where
  ends_there : (place epoch : ℕ) → EndsRun S entry r place epoch → EndsThere (judging S) entry r.journal place epoch
  ends_there place epoch ends = record { shard = ends.shard; sweeping = ends.sweeping; at = ends.at; swept = ends.swept; before = ends.before; after = ends.after }

  ends_here : (place epoch : ℕ) → EndsThere (judging S) entry r.journal place epoch → EndsRun S entry r place epoch
  ends_here place epoch ends = record { shard = ends.shard; sweeping = ends.sweeping; at = ends.at; swept = ends.swept; before = ends.before; after = ends.after }

  done_here : (place epoch : ℕ) → IsDoneThere r.journal place epoch → IsDoneAt r place epoch
  done_here place epoch done = record { entry = done.entry; at = done.at; tells = done.tells }

  only_here : AreSwept (judging S) entry r.journal → (place epoch : ℕ) → IsDoneAt r place epoch → (before : ℕ) × (place ≡ before + 1) × EndsRun S entry r before epoch
  only_here its place epoch done =
      let found : (before : ℕ) × (place ≡ before + 1) × EndsThere (judging S) entry r.journal before epoch = its.only_done place epoch (record { entry = done.entry; at = done.at; tells = done.tells }) in
      (found.0, found.1, ends_here found.0 epoch found.2)

  -- a journal that keeps the rule
  pub deletes_of : AreSwept (judging S) entry r.journal → Deletes S entry r
  deletes_of its = record {
    sweeps = its.sweeps;
    done = λ place epoch ends. done_here (place + 1) epoch (its.done place epoch (ends_there place epoch ends));
    only_done = only_here its;
  }

-- ---- of a run

-- from opening on
pub run_deletes : LawsBelow → FoldsInMemory → (start : Start) (found : Found) (events : Events) → RunBegins start found → AllMayKeep start (MayRun start) (first_core start.set found) events
    → TellsDeletion (judging_of start) start.entry (steps (first_core start.set found) events)
run_deletes below memory start found events b may =
    subst (λ (s : Store). TellsDeletion (judging_of start) s (steps (first_core start.set found) events)) (sym b.entry)
    (opened_copies_delete below (judging_of start) b.soundly.names start.set.shape (opens_with start.set found) found.opened (opened_folds start.set found) (opens start found b memory) events (come_there start found b memory events may))

-- what a run keeps, and a core as it opens
abbrev pub RunKeeps : Type 0
RunKeeps = (start : Start) (found : Found) (events : Events) → RunBegins start found → AllMayKeep start (MayRun start) (first_core start.set found) events
    → TellsDeletion (judging_of start) start.entry (steps (first_core start.set found) events)

abbrev pub OpensSo : Type 0
OpensSo = (by : Judging) (start : Store) (shape : Shape) (limits : Limits) (taken : Taken) (moment : ℕ) → TellsDeletion by start (open_core shape limits taken moment)

-- it went as a story says
pub run_promised : RunKeeps → (S : Script) (entry : Store) (r : Ran) (story : Story) → Went S r story → RunBegins (record { set = S.set; commands = S.commands; entry = entry }) story.found
    → AllMayKeep (record { set = S.set; commands = S.commands; entry = entry }) (MayRun (record { set = S.set; commands = S.commands; entry = entry })) (first_core S.set story.found) (all_events story) → Deletes S entry r
run_promised keeps S entry r story went begins may =
    deletes_of S entry r (subst (λ (es : List JournalEntry). AreSwept (judging S) entry es) (sym went.journal) told.journal)
  where
    told : TellsDeletion (judging S) entry (last_core S story)
    told = keeps (record { set = S.set; commands = S.commands; entry = entry }) story.found (all_events story) begins may

-- its core ended as it opened
pub ended_promised : OpensSo → (S : Script) (entry : Store) (r : Ran) (story : Story) (fault : CoreFault) → Went S r story → (first_core S.set story.found).ended ≡ Some fault → Deletes S entry r
ended_promised opens S entry r story fault went over =
    deletes_of S entry r (subst (λ (es : List JournalEntry). AreSwept (judging S) entry es) (sym (went.journal ∙ ap (λ (c : Core). c.journal) (steps_ended (first_core S.set story.found) (all_events story) fault over))) told.journal)
  where
    told : TellsDeletion (judging S) entry (first_core S.set story.found)
    told = opens (judging S) entry S.set.shape S.set.limits (opens_with S.set story.found) story.found.opened

-- no core was opened
pub never_promised : (S : Script) (entry : Store) (r : Ran) → NeverOpened r → Deletes S entry r
never_promised S entry r never = deletes_of S entry r (subst (λ (es : List JournalEntry). AreSwept (judging S) entry es) (sym never.journal) (none_swept (judging S) entry))
