use Rattle.std.proofs.Common.{◌≡◌, ◌∙◌, ◌∷◌, [], ap, arith, map, refl, sym, subst, Some, inl}
use Rattle.std.proofs.lemmas.Result.{err_from_is_err_and}
use Rattle.std.specs.Prelude.{Err, Ok}
use Rattle.hs_cluster.proofs.CopyLemmas.{beside_same, turn_of_peer, turn_same}
use Rattle.hs_cluster.proofs.GrowingLemmas.{goes_as}
use Rattle.hs_cluster.specs.Growing.{GoesOn}
use Rattle.hs_cluster.specs.Jobs.{StandsBeside}
use Rattle.hs_core_words.specs.Looking.{first_job}
use Rattle.hs_core_words.specs.State.{Core}
use Rattle.hs_cluster.proofs.LineLemmas.{runs_turn, runs_turn_alone, runs_turn_cut}
use Rattle.hs_cluster.proofs.ShowLemmas.{any_shows, quiet_shows, shows_then}
use Rattle.hs_cluster.specs.Calls.{Does, RunsLine, done_of}
use Rattle.hs_cluster.specs.declared.fault.ClusterFault.{ClusterFault}
use Rattle.hs_cluster.specs.Disks.{DiskSeen, log_at, seen_as}
use Rattle.hs_cluster.specs.Kept.{Shows}
use Rattle.hs_cluster.specs.Running.{Running}
use Rattle.hs_core_words.specs.declared.event.Event.{Event}
use Rattle.hs_core_words.specs.declared.event.Event.TheVariants as event
use Rattle.hs_events.specs.Due.{turn_behind}
use Rattle.hs_model.specs.declared.command.Command.TheVariants as command
use Rattle.hs_cluster.proofs.cluster.Cluster.turn.Goals as goal

pub returns-in_err-step-clause-runs : goal.returns-in_err-step-clause-runs
returns-in_err-step-clause-runs g c = λ name.
    let f : g.row.D.Denot → DiskSeen = λ disk. seen_as (g.D.Disk.size disk) (g.D.Disk.stands disk) (g.D.Disk.faults disk) in
    let p = err_from_is_err_and c.from_residual.result c.from_residual.ensures.1 in
    let old = c.args.self.now in
    let new = c.step.new.self in
    let start = c.args.watch.now in
    let e : Event = event.Turn c.args.line c.args.peer in
    let fault = c.in_err-step.field-0.0 in
    let does : Does (done_of (Err fault) (e, start)) old new (Err fault) = subst (λ k. Does (done_of (Err fault) (e, k)) old new (Err fault)) c.now.ensures.value c.in_err-step.ensures.does in
    subst (λ r. RunsLine name c.args.line (command.Turn c.args.peer) start start old new r (Shows g.D.Disk.tells (record { before = start; now = start; old = old; new = new; disks = map f c.args.disks.now; left = map f c.args.disks.now }) r))
    (sym (p.1 ∙ ap (λ (x : ClusterFault). Err x) p.2))
    (runs_turn_cut name c.args.line c.args.peer start start start old new fault _ (omega arith) (omega arith) does
    (any_shows g.D.Disk.tells (record { before = start; now = start; old = old; new = new; disks = map f c.args.disks.now; left = map f c.args.disks.now }) (Err fault) (done_of (Err fault) (e, start)) (quiet_shows e start old new (map f c.args.disks.now) (Err fault) refl c.requires.going does (λ p keeping at. subst (λ l. log_at l p ≡ Some keeping) c.step.ensures.logs at) (λ p. inl (ap (λ l. log_at l p) c.step.ensures.logs)) c.step.ensures.cache)))

pub returns-in-Some-clause-runs : goal.returns-in-Some-clause-runs
returns-in-Some-clause-runs g c = λ name.
    let f : g.row.D.Denot → DiskSeen = λ disk. seen_as (g.D.Disk.size disk) (g.D.Disk.stands disk) (g.D.Disk.faults disk) in
    let old = c.args.self.now in
    let mid = c.step.new.self in
    let new = c.do_due.new.self in
    let start = c.args.watch.now in
    let r = c.do_due.result in
    let e : Event = event.Turn c.args.line c.args.peer in
    let first : Does ((e, start) ∷ []) old mid (Ok tt) = subst (λ k. Does ((e, k) ∷ []) old mid (Ok tt)) c.now.ensures.value c.in_ok-step.ensures.does in
    let is : turn_behind c.args.peer mid.core ≡ Some c.in-Some.due = ap (λ (r : Running). turn_behind c.args.peer r.core) (sym c.self.view_is) ∙ sym c.turn_behind.ensures.value ∙ c.in-Some.is in
    let one = any_shows g.D.Disk.tells _ (Ok tt) _ (quiet_shows e start old mid (map f c.args.disks.now) (Ok tt) refl c.requires.going first (λ p keeping at. subst (λ l. log_at l p ≡ Some keeping) c.step.ensures.logs at) (λ p. inl (ap (λ l. log_at l p) c.step.ensures.logs)) c.step.ensures.cache) in
    runs_turn name c.args.line c.args.peer start c.do_due.new.watch start old mid new c.in-Some.due r _ _ (omega arith) first is c.do_due.ensures.does
    (λ fs rise on. shows_then g.D.Disk.tells start start c.do_due.new.watch old mid new (map f c.args.disks.now) (map f c.args.disks.now) (map f c.do_due.new.disks) r ((e, start) ∷ []) fs first (omega arith, omega arith) rise one on)

pub returns-in-None-clause-runs : goal.returns-in-None-clause-runs
returns-in-None-clause-runs g c = λ name.
    let f : g.row.D.Denot → DiskSeen = λ disk. seen_as (g.D.Disk.size disk) (g.D.Disk.stands disk) (g.D.Disk.faults disk) in
    let old = c.args.self.now in
    let new = c.step.new.self in
    let start = c.args.watch.now in
    let e : Event = event.Turn c.args.line c.args.peer in
    let first : Does ((e, start) ∷ []) old new (Ok tt) = subst (λ k. Does ((e, k) ∷ []) old new (Ok tt)) c.now.ensures.value c.in_ok-step.ensures.does in
    runs_turn_alone name c.args.line c.args.peer start start start old new _ (omega arith) (omega arith) first
    (ap (λ (r : Running). turn_behind c.args.peer r.core) (sym c.self.view_is) ∙ sym c.turn_behind.ensures.value ∙ c.in-None.is)
    (any_shows g.D.Disk.tells _ (Ok tt) _ (quiet_shows e start old new (map f c.args.disks.now) (Ok tt) refl c.requires.going first (λ p keeping at. subst (λ l. log_at l p ≡ Some keeping) c.step.ensures.logs at) (λ p. inl (ap (λ l. log_at l p) c.step.ensures.logs)) c.step.ensures.cache))

pub returns-in_err-step-clause-beside : goal.returns-in_err-step-clause-beside
returns-in_err-step-clause-beside g c =
    let f : g.row.D.Denot → DiskSeen = λ disk. seen_as (g.D.Disk.size disk) (g.D.Disk.stands disk) (g.D.Disk.faults disk) in
    beside_same g.D.Disk.tells c.args.peer (first_job c.args.peer c.args.self.now.core) (map f c.args.disks.now)

pub returns-in-None-clause-beside : goal.returns-in-None-clause-beside
returns-in-None-clause-beside g c =
    let f : g.row.D.Denot → DiskSeen = λ disk. seen_as (g.D.Disk.size disk) (g.D.Disk.stands disk) (g.D.Disk.faults disk) in
    beside_same g.D.Disk.tells c.args.peer (first_job c.args.peer c.args.self.now.core) (map f c.args.disks.now)

pub returns-in-Some-clause-beside : goal.returns-in-Some-clause-beside
returns-in-Some-clause-beside g c =
    let f : g.row.D.Denot → DiskSeen = λ disk. seen_as (g.D.Disk.size disk) (g.D.Disk.stands disk) (g.D.Disk.faults disk) in
    let old = c.args.self.now in
    let mid = c.step.new.self in
    let start = c.args.watch.now in
    let e : Event = event.Turn c.args.line c.args.peer in
    let first : Does ((e, start) ∷ []) old mid (Ok tt) = subst (λ k. Does ((e, k) ∷ []) old mid (Ok tt)) c.now.ensures.value c.in_ok-step.ensures.does in
    let is : turn_behind c.args.peer mid.core ≡ Some c.in-Some.due = ap (λ (r : Running). turn_behind c.args.peer r.core) (sym c.self.view_is) ∙ sym c.turn_behind.ensures.value ∙ c.in-Some.is in
    let job = ap (λ (x : Core). first_job c.args.peer x) (first.core refl) ∙ turn_same c.args.line c.args.peer start c.args.peer old.core in
    subst (λ o. StandsBeside g.D.Disk.tells c.args.peer o (map f c.args.disks.now) (map f c.do_due.new.disks)) job
    (subst (λ q. StandsBeside g.D.Disk.tells q (first_job q mid.core) (map f c.args.disks.now) (map f c.do_due.new.disks)) (turn_of_peer c.args.peer mid.core c.in-Some.due is) c.do_due.ensures.beside)

pub returns-in_err-step-clause-goes_on : goal.returns-in_err-step-clause-goes_on
returns-in_err-step-clause-goes_on g c = λ told p apart.
    let f : g.row.D.Denot → DiskSeen = λ disk. seen_as (g.D.Disk.size disk) (g.D.Disk.stands disk) (g.D.Disk.faults disk) in
    goes_as c.args.self.now.logs c.step.new.self.logs (map f c.args.disks.now) p c.step.ensures.logs

pub returns-in-None-clause-goes_on : goal.returns-in-None-clause-goes_on
returns-in-None-clause-goes_on g c = λ told p apart.
    let f : g.row.D.Denot → DiskSeen = λ disk. seen_as (g.D.Disk.size disk) (g.D.Disk.stands disk) (g.D.Disk.faults disk) in
    goes_as c.args.self.now.logs c.step.new.self.logs (map f c.args.disks.now) p c.step.ensures.logs

pub returns-in-Some-clause-goes_on : goal.returns-in-Some-clause-goes_on
returns-in-Some-clause-goes_on g c = λ told p apart.
    let f : g.row.D.Denot → DiskSeen = λ disk. seen_as (g.D.Disk.size disk) (g.D.Disk.stands disk) (g.D.Disk.faults disk) in
    subst (λ l. GoesOn l (map f c.args.disks.now) c.do_due.new.self.logs (map f c.do_due.new.disks) p) c.step.ensures.logs
    (c.do_due.ensures.goes_on told p (c.in_ok-step.ensures.joins p refl apart))

pub returns-in-None-clause-joins : goal.returns-in-None-clause-joins
returns-in-None-clause-joins g c = λ p apart. c.in_ok-step.ensures.joins p refl apart

pub returns-in-Some-clause-joins : goal.returns-in-Some-clause-joins
returns-in-Some-clause-joins g c = λ p apart. c.do_due.ensures.joins p (c.in_ok-step.ensures.joins p refl apart)
