-- A run that never opened a core: nothing was told, and where memory was wanting each disk keeps its list.
use Rattle.std.proofs.Common.{◌≡◌, ◌∙◌, inl, inr, ap, sym, subst, ℕ, ◌<◌, ◌++◌, true, false, List, []}
use Rattle.std.proofs.lemmas.Bool.{false≢true}
use Rattle.std.specs.List.{AllByRecursion}
use Rattle.hs_clauses.proofs.CountedLemmas.{counted_cases, entry_begins, entry_rested}
use Rattle.hs_clauses.proofs.NoteLemmas.{IsNote}
use Rattle.hs_clauses.proofs.RestLemmas.{IsRested, rest_logs, rest_reopens}
use Rattle.hs_clauses.specs.Shown.{IsUnopened, OnDisks}
use Rattle.hs_fold.specs.Good.{IsBegun, good_from}
use Rattle.hs_journal.specs.declared.entry.JournalEntry.{JournalEntry}
use Rattle.hs_model.specs.declared.course.CourseItem.{CourseItem}
use Rattle.hs_model.specs.Store.{Store}
use Rattle.hs_ports.specs.Objects.{IsDuring}
use Rattle.hs_fold.specs.Images.{image_at}
use Rattle.hs_promise.specs.Answers.{Answers}
use Rattle.hs_promise.specs.Causes.{FullCause}
use Rattle.hs_promise.specs.Entry.{MayStop, counted_course, entry_store}
use Rattle.hs_promise.specs.Machine.{NeverOpened}
use Rattle.hs_promise.specs.Headers.{KeepsHeaders}
use Rattle.hs_promise.specs.Run.{Ran, Script}
use Rattle.hs_promise.specs.Stops.{Stops}
use Rattle.hs_told.proofs.OpenedLemmas.{nothing_told}

-- ---- nothing was told

no_answers : (S : Script) (entry : Store) → Answers S entry []
no_answers S entry = record { legal = tt; replied = tt; ordered = nothing_told S.commands }

module _ (S : Script) (r : Ran) (never : NeverOpened r) where
  pub never_answers : (entry : Store) → Answers S entry r.journal
  never_answers entry = subst (λ (es : List JournalEntry). Answers S entry es) (sym never.journal) (no_answers S entry)

  pub never_full : (entry : Store) → FullCause S entry r
  never_full entry full =
      let told : r.journal ++ r.refused ≡ [] = λ i. never.journal i ++ never.refused i in
      subst (λ (es : List JournalEntry). Answers S entry es) (sym told) (no_answers S entry)

-- ---- a stop

module _ (S : Script) (r : Ran) (on : OnDisks S r) (unopened : IsUnopened S r) (may : MayStop S r) where
  notes : AllByRecursion IsNote r.journal
  notes = subst (λ (es : List JournalEntry). AllByRecursion IsNote es) (sym unopened.never.journal) tt

  rested : (m : ℕ) → IsDuring r.old r.new m → (p : ℕ) → p < S.set.shape.shards → good_from false (counted_course S r) m p ≡ true → IsRested S r m p
  rested m during p low good = elim (counted_cases S r) [
    | inl memory ↦ entry_rested S r on m p during low memory.0 (unopened.kept memory.1 may.none.called p low) good
    | inr own ↦
        let bad : good_from false (counted_course S r) m p ≡ false = ap (λ (items : List CourseItem). good_from false items m p) (own ∙ unopened.never.course) in
        absurd (false≢true (sym bad ∙ good))
  ]

  begun : (m line : ℕ) → IsBegun (counted_course S r) line m → IsBegun r.course line m
  begun m line h = elim (counted_cases S r) [
    | inl memory ↦ absurd (entry_begins S r on line m (subst (λ (course : List CourseItem). IsBegun course line m) memory.0 h))
    | inr own ↦ subst (λ (course : List CourseItem). IsBegun course line m) own h
  ]

  pub never_stops : KeepsHeaders S r → Stops S (entry_store S r) r
  never_stops keeps = record {
    logs = λ m peer during images low good. rest_logs S r on may notes m during (rested m during) images peer low good;
    headed = λ m peer during own images good. keeps.each m peer during own (image_at images peer) good.left;
    reopens = λ m during images good. rest_reopens S r on may notes m during (rested m during) (begun m) images good;
  }
