-- A run is answered as the plain store does.
use Rattle.std.proofs.Common.{◌≡◌, ◌∙◌, ap, sym, subst, ◌++◌, List, []}
use Rattle.std.specs.Prelude.{if◌then◌else◌}
use Rattle.hs_standing.specs.Answered.{AreAnswers, judging_by}
use Rattle.hs_clauses.proofs.FrontLemmas.{answered_front, legal_front}
use Rattle.hs_clauses.proofs.ReadyLemmas.{LawsHere, last_answers, last_turn}
use Rattle.hs_clauses.specs.Asked.{lined}
use Rattle.hs_clauses.specs.Shown.{RunsSoundly}
use Rattle.hs_core_words.specs.State.{Core}
use Rattle.hs_journal.specs.declared.entry.JournalEntry.{JournalEntry}
use Rattle.hs_promise.specs.Answers.{Answers}
use Rattle.hs_promise.specs.Causes.{FullCause}
use Rattle.hs_promise.specs.declared.status.Status.{Status}
use Rattle.hs_promise.specs.Ending.{ending_of}
use Rattle.hs_promise.specs.Entry.{entry_store}
use Rattle.hs_promise.specs.Run.{Ran, Script}
use Rattle.hs_promise.specs.Story.{Story, last_core}
use Rattle.hs_told.specs.InTurn.{told_of}

-- the journal alone, which is a front of what was told
pub answers_of : LawsHere → (S : Script) (r : Ran) (story : Story) → RunsSoundly S r story → Answers S (entry_store S r) r.journal
answers_of laws S r story run =
    let all : AreAnswers (judging_by (lined S r) S.set.limits) (entry_store S r) (told_of (last_core S story)) = last_answers laws S r story run in
    let last : Core = last_core S story in
    subst (λ (entries : List JournalEntry). Answers S (entry_store S r) entries) (sym run.went.journal)
    (record {
      legal = legal_front (judging_by (lined S r) S.set.limits) (entry_store S r) last.journal last.refused all.legal;
      replied = answered_front (judging_by (lined S r) S.set.limits) (entry_store S r) last.journal last.refused all.replied;
      ordered = (last_turn laws S r story run).journal;
    })

pub full_of : LawsHere → (S : Script) (r : Ran) (story : Story) → RunsSoundly S r story → FullCause S (entry_store S r) r
full_of laws S r story run full =
    let all : AreAnswers (judging_by (lined S r) S.set.limits) (entry_store S r) (told_of (last_core S story)) = last_answers laws S r story run in
    let last : Core = last_core S story in
    let refused_is : r.refused ≡ last.refused = run.went.refused ∙ ap (λ (ending : Status). if (ending_of ending).full then last.refused else []) full in
    let journal_is : r.journal ≡ last.journal = run.went.journal in
    let told_is : r.journal ++ r.refused ≡ told_of last = λ i. journal_is i ++ refused_is i in
    subst (λ (entries : List JournalEntry). Answers S (entry_store S r) entries) (sym told_is)
    (record { legal = all.legal; replied = all.replied; ordered = all.ordered })
