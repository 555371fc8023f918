use Rattle.hs_clauses.proofs.AskedLemmas.{its_disks, told_as}
use Rattle.hs_clauses.specs.Asked.{start_of}
use Rattle.hs_events.specs.Course.{steps}
use Rattle.hs_events.specs.Due.{Events}
use Rattle.hs_events.specs.Found.{first_core}
use Rattle.hs_journal.specs.declared.entry.JournalEntry.{JournalEntry}
use Rattle.hs_measure.proofs.run.each_core_of_a_run_keeps_the_promise.Goals as goal
use Rattle.hs_measure.specs.Promised.{KeepsPromise}
use Rattle.hs_promise.specs.Entry.{entry_store}
use Rattle.hs_promise.specs.Story.{all_events}
use Rattle.hs_settled.proofs.ListLemmas.{take_all}
use Rattle.hs_settled.proofs.PromiseLemmas.{deletes_of}
use Rattle.hs_standing.specs.Standing.{judging_of}
use Rattle.hs_swept.specs.Swept.{AreSwept}
use Rattle.std.proofs.Common.{List, length, subst, sym}

pub returns-clause-soundly : goal.returns-clause-soundly
returns-clause-soundly c = λ S r story run going n.
    c.each_event_keeps_the_promise.ensures.run (start_of S r) story.found (all_events story) run.begins (c.a_run_stands.ensures.events S r story run) n

pub returns-clause-deletes : goal.returns-clause-deletes
returns-clause-deletes c = λ S r story run.
    let kept : KeepsPromise (start_of S r) (steps (first_core S.set story.found) (all_events story)) =
    subst (λ (es : Events). KeepsPromise (start_of S r) (steps (first_core S.set story.found) es)) (take_all (all_events story))
    (c.each_event_keeps_the_promise.ensures.run (start_of S r) story.found (all_events story) run.begins (c.a_run_stands.ensures.events S r story run) (length (all_events story))) in
    deletes_of S (entry_store S r) r (subst (λ (es : List JournalEntry). AreSwept (judging_of (start_of S r)) (entry_store S r) es) (sym run.went.journal) kept.deletes.journal)

pub returns-clause-disks : goal.returns-clause-disks
returns-clause-disks c = λ S r story on shown sound going n.
    let run = c.a_run_stands.ensures.soundly S r story (its_disks S r on) (told_as S r story shown) sound going in
    c.each_event_keeps_the_promise.ensures.run (start_of S r) story.found (all_events story) run.begins (c.a_run_stands.ensures.events S r story run) n
