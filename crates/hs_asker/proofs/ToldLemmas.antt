-- The run of an asker, at its end.
use Rattle.std.specs.List.{AllByRecursion}
use Rattle.std.proofs.Common.{◌≡◌, ◌∙◌, ap, sym, subst, ℕ, List, Option, Some, None, length, refl}
use Rattle.hs_desk.specs.declared.fault.CoreFault.{CoreFault}
use Rattle.hs_journal.specs.declared.entry.JournalEntry.{JournalEntry}
use Rattle.hs_limits.specs.declared.address.Address.{Address}
use Rattle.hs_model.specs.declared.course.CourseItem.{CourseItem}
use Rattle.hs_model.specs.declared.command.Command.{Command}
use Rattle.hs_run.specs.Ended.{ran_at, refused_in}
use Rattle.hs_run.specs.Machine.{IsOfCluster}
use Rattle.hs_asker.specs.Going.{AtEntry, Inside, IsAsker, IsGoing, at_of}
use Rattle.hs_asker.specs.Lines.{IsOfAsker, command_at}
use Rattle.hs_asker.specs.Silent.{asking_script, silent, silent_run, status_by}
use Rattle.hs_asker.proofs.LinesLemmas.{are_asked, command_zero}
use Rattle.hs_asker.proofs.StopLemmas.{stops_between}

pub ran_so : (tells : Type 0) (name : List ℕ → Address) (e : AtEntry) (s : Inside) → IsAsker tells name e s
    → IsOfCluster tells (asking_script e.set s.said) (ran_at (status_by s.ended) s.line (Some s.cluster) (silent e.moment e.disks) (silent s.now s.disks))
ran_so tells name e s h = go s.ended refl
  where
    go : (o : Option CoreFault) → s.ended ≡ o → IsOfCluster tells (asking_script e.set s.said) (ran_at (status_by s.ended) s.line (Some s.cluster) (silent e.moment e.disks) (silent s.now s.disks))
    go None is =
        let g : IsGoing tells e s.said (at_of s) = h.going is in
        subst (λ (o : Option CoreFault). IsOfCluster tells (asking_script e.set s.said) (ran_at (status_by o) s.line (Some s.cluster) (silent e.moment e.disks) (silent s.now s.disks))) (sym is)
        (stops_between tells e g.found g.first g.opening h.shape h.count (command_at s.said) s.said g.lines (at_of s) None tt h.left (command_zero s.said) (are_asked s.said) g.done g.shows)
    go (Some fault) is =
        subst (λ (o : Option CoreFault). IsOfCluster tells (asking_script e.set s.said) (ran_at (status_by o) s.line (Some s.cluster) (silent e.moment e.disks) (silent s.now s.disks))) (sym is) (h.ended fault is)

-- as it is handed back
pub told_so : (tells : Type 0) (name : List ℕ → Address) (e : AtEntry) (s : Inside) (said : List Command) (journal refused : List JournalEntry) (course : List CourseItem) → IsAsker tells name e s → said ≡ s.said → journal ≡ s.cluster.core.journal
    → refused ≡ refused_in (status_by s.ended) (Some s.cluster) → course ≡ s.cluster.course
    → IsOfCluster tells (asking_script e.set said) (silent_run (status_by s.ended) s.line journal refused course (silent e.moment e.disks) (silent s.now s.disks))
told_so tells name e s said journal refused course h same journal_is refused_is course_is =
    subst (λ (lines : List Command). IsOfCluster tells (asking_script e.set lines) (silent_run (status_by s.ended) s.line journal refused course (silent e.moment e.disks) (silent s.now s.disks))) (sym same)
    (subst (λ (j : List JournalEntry). IsOfCluster tells (asking_script e.set s.said) (silent_run (status_by s.ended) s.line j refused course (silent e.moment e.disks) (silent s.now s.disks))) (sym journal_is)
    (subst (λ (r : List JournalEntry). IsOfCluster tells (asking_script e.set s.said) (silent_run (status_by s.ended) s.line s.cluster.core.journal r course (silent e.moment e.disks) (silent s.now s.disks))) (sym refused_is)
    (subst (λ (k : List CourseItem). IsOfCluster tells (asking_script e.set s.said) (silent_run (status_by s.ended) s.line s.cluster.core.journal (refused_in (status_by s.ended) (Some s.cluster)) k (silent e.moment e.disks) (silent s.now s.disks))) (sym course_is)
    (ran_so tells name e s h))))

-- where it goes on, as many lines were begun as it has
pub lines_so : (tells : Type 0) (name : List ℕ → Address) (e : AtEntry) (s : Inside) (said : List Command) → IsAsker tells name e s → said ≡ s.said → s.ended ≡ None → s.line ≡ length said
lines_so tells name e s said h same going =
    let g : IsGoing tells e s.said (at_of s) = h.going going in
    g.done.line ∙ sym g.done.each ∙ ap (λ (lines : List Command). length lines) (sym same)

-- each is an operation's, or drives
pub askers_so : (tells : Type 0) (name : List ℕ → Address) (e : AtEntry) (s : Inside) (said : List Command) → IsAsker tells name e s → said ≡ s.said → AllByRecursion IsOfAsker said
askers_so tells name e s said h same = subst (λ (lines : List Command). AllByRecursion IsOfAsker lines) (sym same) h.askers
