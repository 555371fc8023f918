use Rattle.std.proofs.Common.{◌≡◌, ◌∙◌, ap, sym, subst, ℕ, ◌-◌, ◌++◌, ◌≤◌}
use Rattle.hs_settled.proofs.CausesCountLemmas.{less_none, notes_caused, stands_rose}
use Rattle.hs_settled.proofs.notes.each_note_has_its_cause.Goals as goal
use Rattle.hs_journal.specs.Notes.{note_count}
use Rattle.hs_ports.specs.Objects.{faults_at}
use Rattle.hs_promise.specs.Lost.{NotesCause, extra_note}
use Rattle.hs_promise.specs.Machine.{NeverOpened}
use Rattle.hs_promise.specs.Run.{DiskRose, Ran, Script}

never_noted : (S : Script) (r : Ran) → NeverOpened r → ((disk : ℕ) → faults_at r.old.disk_faults disk ≤ faults_at r.new.disk_faults disk) → NotesCause S r
never_noted S r never stand peer =
    subst (λ n. DiskRose r n peer) (sym (ap (λ n. n - extra_note S r peer) none ∙ less_none (extra_note S r peer))) (stands_rose (faults_at r.old.disk_faults peer) (faults_at r.new.disk_faults peer) (stand peer))
  where
    none : note_count peer (r.journal ++ r.refused) ≡ 0
    none = ap (λ es. note_count peer (es ++ r.refused)) never.journal ∙ ap (λ es. note_count peer es) never.refused

pub returns-clause-opened : goal.returns-clause-opened
returns-clause-opened c = λ S r story went read lost failed aside peer. notes_caused S r story went peer (read peer) (lost peer) (λ going. failed going peer) (λ several going low bad. aside several going peer low bad)

pub returns-clause-never : goal.returns-clause-never
returns-clause-never c = λ S r never stand. never_noted S r never stand
