use Rattle.std.proofs.lemmas.Result.{err_from_is_err_and}
use Rattle.std.specs.Prelude.{Err, ⊤, is_ok}
use Rattle.hs_cluster.proofs.EventLemmas.{nothing_done}
use Rattle.hs_cluster.proofs.ShowLemmas.{none_shows}
use Rattle.hs_cluster.specs.Calls.{RunsLine, done_of}
use Rattle.hs_cluster.specs.declared.fault.ClusterFault.{ClusterFault}
use Rattle.hs_cluster.specs.declared.fault.ClusterFault.TheVariants.{NoMemory}
use Rattle.hs_cluster.specs.Kept.{Shows}
use Rattle.std.proofs.Common.{◌≡◌, ◌∙◌, None, ap, arith, refl, subst, sym, Some, inl}
use Rattle.hs_cluster.proofs.LineLemmas.{runs_none, runs_quiet}
use Rattle.hs_cluster.specs.Disks.{log_at}
use Rattle.hs_core_words.specs.declared.event.Event.{Event}
use Rattle.hs_core_words.specs.declared.event.Event.TheVariants as event
use Rattle.hs_events.specs.Asked.{addressed}
use Rattle.hs_events.specs.Commands.{BeginsWith, LineAt}
use Rattle.hs_model.specs.declared.command.Command.TheVariants as command
use Rattle.hs_cluster.specs.Running.{Running}
use Rattle.hs_cluster.proofs.cluster.Cluster.ask.Goals as goal

pub returns-clause-runs : goal.returns-clause-runs
returns-clause-runs g c = λ disks.
    let name = g.A.Addresser.name c.args.naming.now in
    let old = c.args.self.now in
    let e : Event = event.Line c.args.line c.in_ok-op.op in
    let at : LineAt = record { line = c.args.line; core = old.core; events = done_of c.step.result (e, c.args.moment); whole = is_ok c.step.result } in
    let op = c.in_ok-op.ensures.ok ∙ ap (λ (r : Running). addressed name r.core.sessions c.args.op) c.self.view_is in
    runs_quiet name c.args.line (command.Client c.args.op) (command.Client c.args.op) c.args.moment old c.step.new.self disks c.step.result e refl
    (subst (λ o. BeginsWith at e (λ core. None) → BeginsWith at (event.Line c.args.line o) (λ core. None)) op (λ h. h)) refl c.requires.going c.step.ensures.does
    (λ p keeping at. subst (λ l. log_at l p ≡ Some keeping) c.step.ensures.logs at) (λ p. inl (ap (λ l. log_at l p) c.step.ensures.logs)) c.step.ensures.cache

pub returns-in_err-op-clause-runs : goal.returns-in_err-op-clause-runs
returns-in_err-op-clause-runs g c = λ disks.
    let name = g.A.Addresser.name c.args.naming.now in
    let p = err_from_is_err_and c.from_residual.result c.from_residual.ensures.1 in
    let old = c.args.self.now in
    let now = c.args.moment in
    subst (λ r. RunsLine name c.args.line (command.Client c.args.op) now now old old r (Shows ⊤ (record { before = now; now = now; old = old; new = old; disks = disks; left = disks }) r))
    (sym (p.1 ∙ ap (λ (x : ClusterFault). Err x) p.2))
    (runs_none name c.args.line (command.Client c.args.op) now now old old (Shows ⊤ (record { before = now; now = now; old = old; new = old; disks = disks; left = disks }) (Err NoMemory)) (λ h. h) (omega arith)
    (nothing_done old old refl refl refl c.requires.going) (none_shows now old old disks))

pub returns-clause-joins : goal.returns-clause-joins
returns-clause-joins g c = λ p apart. c.step.ensures.joins p refl apart
