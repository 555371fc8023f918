use Rattle.std.proofs.Common.{◌≡◌, ◌∙◌, Some, ap, false, inl, inr, refl, subst, sym}
use Rattle.std.proofs.lemmas.Bool.{cases_eq}
use Rattle.std.proofs.lemmas.Result.{err_from_is_err_and}
use Rattle.std.specs.Prelude.{Err, Ok, ⊤}
use Rattle.hs_cluster.proofs.LineLemmas.{runs_quiet}
use Rattle.hs_cluster.proofs.ShowLemmas.{does_after}
use Rattle.hs_cluster.specs.Calls.{Does, RunsLine, done_of}
use Rattle.hs_cluster.specs.declared.fault.ClusterFault.{ClusterFault}
use Rattle.hs_cluster.specs.Disks.{log_at}
use Rattle.hs_cluster.specs.Kept.{Shows}
use Rattle.hs_core_words.specs.declared.event.Event.{Event}
use Rattle.hs_core_words.specs.declared.event.Event.TheVariants as event
use Rattle.hs_core_words.specs.Looking.{status_of}
use Rattle.hs_core_words.specs.State.{Core}
use Rattle.hs_members.specs.Members.{is_joining}
use Rattle.hs_model.specs.declared.command.Command.TheVariants as command
use Rattle.hs_cluster.proofs.cluster.Cluster.fail.Goals as goal

pub returns-in_err-step-clause-runs : goal.returns-in_err-step-clause-runs
returns-in_err-step-clause-runs c = λ name disks.
    let p = err_from_is_err_and c.from_residual.result c.from_residual.ensures.1 in
    let old = c.args.self.now in
    let new = c.step.new.self in
    let now = c.args.moment in
    let fault = c.in_err-step.field-0.0 in
    let e : Event = event.Fail c.args.line c.args.peer in
    subst (λ r. RunsLine name c.args.line (command.Fail c.args.peer) now now old new r (Shows ⊤ (record { before = now; now = now; old = old; new = new; disks = disks; left = disks }) r))
    (sym (p.1 ∙ ap (λ (x : ClusterFault). Err x) p.2))
    (runs_quiet name c.args.line (command.Fail c.args.peer) (command.Fail c.args.peer) now old new disks (Err fault) e refl (λ h. h) refl c.requires.going c.in_err-step.ensures.does
    (λ p keeping at. subst (λ l. log_at l p ≡ Some keeping) c.step.ensures.logs at) (λ p. inl (ap (λ l. log_at l p) c.step.ensures.logs)) c.step.ensures.cache)

pub returns-clause-runs : goal.returns-clause-runs
returns-clause-runs c = λ name disks.
    let old = c.args.self.now in
    let mid = c.step.new.self in
    let new = c.put_out.new.self in
    let now = c.args.moment in
    let e : Event = event.Fail c.args.line c.args.peer in
    let does : Does (done_of (Ok tt) (e, now)) old new (Ok tt) = does_after (done_of (Ok tt) (e, now)) old mid new (Ok tt) c.put_out.ensures.core c.put_out.ensures.course c.in_ok-step.ensures.does in
    runs_quiet name c.args.line (command.Fail c.args.peer) (command.Fail c.args.peer) now old new disks (Ok tt) e refl (λ h. h) refl c.requires.going does
    (λ p keeping at. subst (λ l. log_at l p ≡ Some keeping) c.step.ensures.logs (c.put_out.ensures.logs p keeping at))
    (λ p. elim (cases_eq p c.args.peer) [
      | inl same ↦ inr (c.args.line, ap (λ q. event.Fail c.args.line q) (sym same))
      | inr differs ↦ inl (c.put_out.ensures.others p differs ∙ ap (λ l. log_at l p) c.step.ensures.logs)
    ]) (c.put_out.ensures.cache ∙ c.step.ensures.cache)

pub returns-clause-joins : goal.returns-clause-joins
returns-clause-joins c = λ p apart. subst (λ (core : Core). is_joining (status_of p core) ≡ false) (sym c.put_out.ensures.core) (c.in_ok-step.ensures.joins p refl apart)
