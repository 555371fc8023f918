use Rattle.std.proofs.Common.{◌≡◌, sym, subst, ℕ, ◌≤◌, List, [], Option, Some, None, arith, length}
use Rattle.std.proofs.lemmas.List.Elements.{All-from_recursion}
use Rattle.std.specs.List.{All}
use Rattle.hs_settled.proofs.entries.each_entry_stands_for_its_cause.Goals as goal
use Rattle.hs_settled.proofs.CausesRunLemmas.{journal_fits, journal_stands, refused_stands}
use Rattle.hs_journal.specs.declared.entry.JournalEntry.{JournalEntry}
use Rattle.hs_promise.specs.Answers.{IsEntry}
use Rattle.hs_promise.specs.Machine.{WentAs}
use Rattle.hs_promise.specs.Run.{Ran, Script}
use Rattle.hs_promise.specs.Story.{Story}

none_stand : (S : Script) (last : ℕ) (entries : List JournalEntry) → entries ≡ [] → All (IsEntry S last) entries
none_stand S last entries none = subst (λ es. All (IsEntry S last) es) (sym none) (All-from_recursion (IsEntry S last) [] tt)

journal_of : (S : Script) (r : Ran) (how : Option Story) → WentAs S r how → All (IsEntry S r.line) r.journal
journal_of S r None never = none_stand S r.line r.journal never.journal
journal_of S r (Some story) went = All-from_recursion (IsEntry S r.line) r.journal (journal_stands S r story went)

refused_of : (S : Script) (r : Ran) (how : Option Story) → WentAs S r how → All (IsEntry S r.line) r.refused
refused_of S r None never = none_stand S r.line r.refused never.refused
refused_of S r (Some story) went = All-from_recursion (IsEntry S r.line) r.refused (refused_stands S r story went)

fits_of : (S : Script) (r : Ran) (how : Option Story) → WentAs S r how → length r.journal ≤ S.set.limits.ops
fits_of S r None never = subst (λ (es : List JournalEntry). length es ≤ S.set.limits.ops) (sym never.journal) (omega arith)
fits_of S r (Some story) went = journal_fits S r story went

pub returns-clause-journal : goal.returns-clause-journal
returns-clause-journal c = λ S r how went. journal_of S r how went

pub returns-clause-refused : goal.returns-clause-refused
returns-clause-refused c = λ S r how went. refused_of S r how went

pub returns-clause-fits : goal.returns-clause-fits
returns-clause-fits c = λ S r how went. fits_of S r how went
