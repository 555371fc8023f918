use Rattle.std.proofs.Common.{◌∙◌, ap, sym, if◌then◌else◌, List, []}
use Rattle.hs_journal.specs.declared.entry.JournalEntry.{JournalEntry}
use Rattle.hs_promise.specs.Ending.{ending_of}
use Rattle.hs_asker.specs.Shows.{Asking}
use Rattle.hs_asker.specs.Silent.{status_by}
use Rattle.hs_asker.proofs.ToldLemmas.{askers_so, lines_so, told_so}
use Rattle.hs_asker.proofs.asker.ClusterAsker.into_told.Goals as goal

pub returns-clause-ran : goal.returns-clause-ran
returns-clause-ran g c =
    told_so g.D.Disk.tells _ g.H.Handed.entry _ c.args.self.said c.into_told-journal.result.0.entries c.refused_by-refused.result c.into_told-core.result.1 c.self.invariant.1
    (ap (λ (a : Asking). a.said) (sym c.self.view_is)) (c.into_told-journal.ensures.journal ∙ ap (λ x. x.journal) c.into_told-core.ensures.core)
    (c.refused_by-refused.ensures ∙ ap (λ (x : List JournalEntry). if (ending_of (status_by c.self.inside.work.ended)).full then x else []) (c.into_told-journal.ensures.refused ∙ ap (λ x. x.refused) c.into_told-core.ensures.core))
    c.into_told-core.ensures.course

pub returns-clause-lines : goal.returns-clause-lines
returns-clause-lines g c = λ going. lines_so g.D.Disk.tells _ g.H.Handed.entry _ c.args.self.said c.self.invariant.1 (ap (λ (a : Asking). a.said) (sym c.self.view_is)) (ap (λ (a : Asking). a.ended) c.self.view_is ∙ going)

pub returns-clause-askers : goal.returns-clause-askers
returns-clause-askers g c = askers_so g.D.Disk.tells _ g.H.Handed.entry _ c.args.self.said c.self.invariant.1 (ap (λ (a : Asking). a.said) (sym c.self.view_is))
