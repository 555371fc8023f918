use Rattle.std.proofs.Common.{◌≡◌, Some, map, refl, subst, sym, ap, inl}
use Rattle.hs_cluster.proofs.DiskLemmas.{always_ok, ready_fewer}
use Rattle.hs_cluster.proofs.LineLemmas.{runs_any, runs_quiet, runs_settle}
use Rattle.hs_cluster.proofs.GrowingLemmas.{goes_as, goes_fewer, goes_same}
use Rattle.hs_cluster.proofs.JoiningLemmas.{starts_another}
use Rattle.std.specs.Prelude.{⊤}
use Rattle.hs_cluster.specs.Calls.{Does, RunsLine, done_of}
use Rattle.hs_cluster.specs.Disks.{DiskSeen, log_at, seen_as}
use Rattle.hs_cluster.specs.Kept.{Shows}
use Rattle.hs_core_words.specs.declared.event.Event.{Event}
use Rattle.hs_core_words.specs.declared.event.Event.TheVariants as event
use Rattle.hs_model.specs.declared.command.Command.TheVariants as command
use Rattle.hs_cluster.proofs.cluster.Cluster.run.Goals as goal

pub returns-in-Fail-clause-ready : goal.returns-in-Fail-clause-ready
returns-in-Fail-clause-ready g c = always_ok c.fail.result (ready_fewer _ c.args.self.now.logs c.fail.new.self.logs _ c.requires.ready c.fail.ensures.logs)

pub returns-in-Nudge-clause-runs : goal.returns-in-Nudge-clause-runs
returns-in-Nudge-clause-runs g c = λ going served.
    let f : g.row.D.Denot → DiskSeen = λ disk. seen_as (g.D.Disk.size disk) (g.D.Disk.stands disk) (g.D.Disk.faults disk) in
    let name = g.A.Addresser.name c.args.naming.now in
    let e : Event = event.Nudge c.args.line c.in-Nudge.peer in
    let does = subst (λ k. Does (done_of c.step.result (e, k)) c.args.self.now c.step.new.self c.step.result) c.now-moment.ensures.value c.step.ensures.does in
    runs_any g.D.Disk.tells name c.args.line c.args.command c.args.watch.now c.args.watch.now c.args.self.now c.step.new.self _ c.step.result
    (runs_quiet name c.args.line c.args.command (command.Nudge c.in-Nudge.peer) c.args.watch.now c.args.self.now c.step.new.self (map f c.args.disks.now) c.step.result e c.in-Nudge.is (λ h. h) refl going does
    (λ p keeping at. subst (λ l. log_at l p ≡ Some keeping) c.step.ensures.logs at) (λ p. inl (ap (λ l. log_at l p) c.step.ensures.logs)) c.step.ensures.cache)

pub returns-in-Deliver-clause-runs : goal.returns-in-Deliver-clause-runs
returns-in-Deliver-clause-runs g c = λ going served.
    let f : g.row.D.Denot → DiskSeen = λ disk. seen_as (g.D.Disk.size disk) (g.D.Disk.stands disk) (g.D.Disk.faults disk) in
    let name = g.A.Addresser.name c.args.naming.now in
    let e : Event = event.Deliver c.args.line c.in-Deliver.message in
    let does = subst (λ k. Does (done_of c.step-in-Deliver.result (e, k)) c.args.self.now c.step-in-Deliver.new.self c.step-in-Deliver.result) c.now-moment.ensures.value c.step-in-Deliver.ensures.does in
    runs_any g.D.Disk.tells name c.args.line c.args.command c.args.watch.now c.args.watch.now c.args.self.now c.step-in-Deliver.new.self _ c.step-in-Deliver.result
    (runs_quiet name c.args.line c.args.command (command.Deliver c.in-Deliver.message) c.args.watch.now c.args.self.now c.step-in-Deliver.new.self (map f c.args.disks.now) c.step-in-Deliver.result e c.in-Deliver.is (λ h. h) refl going does
    (λ p keeping at. subst (λ l. log_at l p ≡ Some keeping) c.step-in-Deliver.ensures.logs at) (λ p. inl (ap (λ l. log_at l p) c.step-in-Deliver.ensures.logs)) c.step-in-Deliver.ensures.cache)

pub returns-in-Lose-clause-runs : goal.returns-in-Lose-clause-runs
returns-in-Lose-clause-runs g c = λ going served.
    let f : g.row.D.Denot → DiskSeen = λ disk. seen_as (g.D.Disk.size disk) (g.D.Disk.stands disk) (g.D.Disk.faults disk) in
    let name = g.A.Addresser.name c.args.naming.now in
    let e : Event = event.Lose c.args.line c.in-Lose.message in
    let does = subst (λ k. Does (done_of c.step-in-Lose.result (e, k)) c.args.self.now c.step-in-Lose.new.self c.step-in-Lose.result) c.now-moment.ensures.value c.step-in-Lose.ensures.does in
    runs_any g.D.Disk.tells name c.args.line c.args.command c.args.watch.now c.args.watch.now c.args.self.now c.step-in-Lose.new.self _ c.step-in-Lose.result
    (runs_quiet name c.args.line c.args.command (command.Lose c.in-Lose.message) c.args.watch.now c.args.self.now c.step-in-Lose.new.self (map f c.args.disks.now) c.step-in-Lose.result e c.in-Lose.is (λ h. h) refl going does
    (λ p keeping at. subst (λ l. log_at l p ≡ Some keeping) c.step-in-Lose.ensures.logs at) (λ p. inl (ap (λ l. log_at l p) c.step-in-Lose.ensures.logs)) c.step-in-Lose.ensures.cache)

pub returns-in-Repeat-clause-runs : goal.returns-in-Repeat-clause-runs
returns-in-Repeat-clause-runs g c = λ going served.
    let f : g.row.D.Denot → DiskSeen = λ disk. seen_as (g.D.Disk.size disk) (g.D.Disk.stands disk) (g.D.Disk.faults disk) in
    let name = g.A.Addresser.name c.args.naming.now in
    let e : Event = event.Repeat c.args.line c.in-Repeat.message in
    let does = subst (λ k. Does (done_of c.step-in-Repeat.result (e, k)) c.args.self.now c.step-in-Repeat.new.self c.step-in-Repeat.result) c.now-moment.ensures.value c.step-in-Repeat.ensures.does in
    runs_any g.D.Disk.tells name c.args.line c.args.command c.args.watch.now c.args.watch.now c.args.self.now c.step-in-Repeat.new.self _ c.step-in-Repeat.result
    (runs_quiet name c.args.line c.args.command (command.Repeat c.in-Repeat.message) c.args.watch.now c.args.self.now c.step-in-Repeat.new.self (map f c.args.disks.now) c.step-in-Repeat.result e c.in-Repeat.is (λ h. h) refl going does
    (λ p keeping at. subst (λ l. log_at l p ≡ Some keeping) c.step-in-Repeat.ensures.logs at) (λ p. inl (ap (λ l. log_at l p) c.step-in-Repeat.ensures.logs)) c.step-in-Repeat.ensures.cache)

pub returns-in-Start-clause-runs : goal.returns-in-Start-clause-runs
returns-in-Start-clause-runs g c = λ going served.
    let f : g.row.D.Denot → DiskSeen = λ disk. seen_as (g.D.Disk.size disk) (g.D.Disk.stands disk) (g.D.Disk.faults disk) in
    let name = g.A.Addresser.name c.args.naming.now in
    let e : Event = event.Start c.args.line c.in-Start.peer in
    let does = subst (λ k. Does (done_of c.step-in-Start.result (e, k)) c.args.self.now c.step-in-Start.new.self c.step-in-Start.result) c.now-moment.ensures.value c.step-in-Start.ensures.does in
    runs_any g.D.Disk.tells name c.args.line c.args.command c.args.watch.now c.args.watch.now c.args.self.now c.step-in-Start.new.self _ c.step-in-Start.result
    (runs_quiet name c.args.line c.args.command (command.Start c.in-Start.peer) c.args.watch.now c.args.self.now c.step-in-Start.new.self (map f c.args.disks.now) c.step-in-Start.result e c.in-Start.is (λ h. h) refl going does
    (λ p keeping at. subst (λ l. log_at l p ≡ Some keeping) c.step-in-Start.ensures.logs at) (λ p. inl (ap (λ l. log_at l p) c.step-in-Start.ensures.logs)) c.step-in-Start.ensures.cache)

pub returns-in-Settle-clause-runs : goal.returns-in-Settle-clause-runs
returns-in-Settle-clause-runs g c = λ going served.
    let f : g.row.D.Denot → DiskSeen = λ disk. seen_as (g.D.Disk.size disk) (g.D.Disk.stands disk) (g.D.Disk.faults disk) in
    let name = g.A.Addresser.name c.args.naming.now in
    subst (λ x. RunsLine name c.args.line x c.args.watch.now c.settle.new.watch c.args.self.now c.settle.new.self c.settle.result
    (Shows g.D.Disk.tells (record { before = c.args.watch.now; now = c.settle.new.watch; old = c.args.self.now; new = c.settle.new.self; disks = map f c.args.disks.now; left = map f c.settle.new.disks }) c.settle.result)) (sym c.in-Settle.is)
    (runs_settle name c.args.line c.args.watch.now c.settle.new.watch c.args.self.now c.settle.new.self c.settle.result _ c.settle.ensures.walks)

pub returns-in-Turn-clause-runs : goal.returns-in-Turn-clause-runs
returns-in-Turn-clause-runs g c = λ going served.
    let f : g.row.D.Denot → DiskSeen = λ disk. seen_as (g.D.Disk.size disk) (g.D.Disk.stands disk) (g.D.Disk.faults disk) in
    let name = g.A.Addresser.name c.args.naming.now in
    subst (λ x. RunsLine name c.args.line x c.args.watch.now c.turn.new.watch c.args.self.now c.turn.new.self c.turn.result
    (Shows g.D.Disk.tells (record { before = c.args.watch.now; now = c.turn.new.watch; old = c.args.self.now; new = c.turn.new.self; disks = map f c.args.disks.now; left = map f c.turn.new.disks }) c.turn.result)) (sym c.in-Turn.is)
    (c.turn.ensures.runs name)

pub returns-in-Client-clause-runs : goal.returns-in-Client-clause-runs
returns-in-Client-clause-runs g c = λ going served.
    let f : g.row.D.Denot → DiskSeen = λ disk. seen_as (g.D.Disk.size disk) (g.D.Disk.stands disk) (g.D.Disk.faults disk) in
    let name = g.A.Addresser.name c.args.naming.now in
    runs_any g.D.Disk.tells name c.args.line c.args.command c.args.watch.now c.args.watch.now c.args.self.now c.ask.new.self _ c.ask.result
    (subst (λ x. RunsLine name c.args.line x c.args.watch.now c.args.watch.now c.args.self.now c.ask.new.self c.ask.result
    (Shows ⊤ (record { before = c.args.watch.now; now = c.args.watch.now; old = c.args.self.now; new = c.ask.new.self; disks = map f c.args.disks.now; left = map f c.args.disks.now }) c.ask.result)) (sym c.in-Client.is)
    (subst (λ k. RunsLine name c.args.line (command.Client c.in-Client.op) k k c.args.self.now c.ask.new.self c.ask.result
    (Shows ⊤ (record { before = k; now = k; old = c.args.self.now; new = c.ask.new.self; disks = map f c.args.disks.now; left = map f c.args.disks.now }) c.ask.result)) c.now-moment.ensures.value (c.ask.ensures.runs (map f c.args.disks.now))))

pub returns-in-Fail-clause-runs : goal.returns-in-Fail-clause-runs
returns-in-Fail-clause-runs g c = λ going served.
    let f : g.row.D.Denot → DiskSeen = λ disk. seen_as (g.D.Disk.size disk) (g.D.Disk.stands disk) (g.D.Disk.faults disk) in
    let name = g.A.Addresser.name c.args.naming.now in
    runs_any g.D.Disk.tells name c.args.line c.args.command c.args.watch.now c.args.watch.now c.args.self.now c.fail.new.self _ c.fail.result
    (subst (λ x. RunsLine name c.args.line x c.args.watch.now c.args.watch.now c.args.self.now c.fail.new.self c.fail.result
    (Shows ⊤ (record { before = c.args.watch.now; now = c.args.watch.now; old = c.args.self.now; new = c.fail.new.self; disks = map f c.args.disks.now; left = map f c.args.disks.now }) c.fail.result)) (sym c.in-Fail.is)
    (subst (λ k. RunsLine name c.args.line (command.Fail c.in-Fail.peer) k k c.args.self.now c.fail.new.self c.fail.result
    (Shows ⊤ (record { before = k; now = k; old = c.args.self.now; new = c.fail.new.self; disks = map f c.args.disks.now; left = map f c.args.disks.now }) c.fail.result)) c.now-moment.ensures.value (c.fail.ensures.runs name (map f c.args.disks.now))))

pub returns-in-Client-clause-goes_on : goal.returns-in-Client-clause-goes_on
returns-in-Client-clause-goes_on g c = λ told p apart.
    let f : g.row.D.Denot → DiskSeen = λ disk. seen_as (g.D.Disk.size disk) (g.D.Disk.stands disk) (g.D.Disk.faults disk) in
    goes_as c.args.self.now.logs c.ask.new.self.logs (map f c.args.disks.now) p c.ask.ensures.logs

pub returns-in-Nudge-clause-goes_on : goal.returns-in-Nudge-clause-goes_on
returns-in-Nudge-clause-goes_on g c = λ told p apart.
    let f : g.row.D.Denot → DiskSeen = λ disk. seen_as (g.D.Disk.size disk) (g.D.Disk.stands disk) (g.D.Disk.faults disk) in
    goes_as c.args.self.now.logs c.step.new.self.logs (map f c.args.disks.now) p c.step.ensures.logs

pub returns-in-Deliver-clause-goes_on : goal.returns-in-Deliver-clause-goes_on
returns-in-Deliver-clause-goes_on g c = λ told p apart.
    let f : g.row.D.Denot → DiskSeen = λ disk. seen_as (g.D.Disk.size disk) (g.D.Disk.stands disk) (g.D.Disk.faults disk) in
    goes_as c.args.self.now.logs c.step-in-Deliver.new.self.logs (map f c.args.disks.now) p c.step-in-Deliver.ensures.logs

pub returns-in-Lose-clause-goes_on : goal.returns-in-Lose-clause-goes_on
returns-in-Lose-clause-goes_on g c = λ told p apart.
    let f : g.row.D.Denot → DiskSeen = λ disk. seen_as (g.D.Disk.size disk) (g.D.Disk.stands disk) (g.D.Disk.faults disk) in
    goes_as c.args.self.now.logs c.step-in-Lose.new.self.logs (map f c.args.disks.now) p c.step-in-Lose.ensures.logs

pub returns-in-Repeat-clause-goes_on : goal.returns-in-Repeat-clause-goes_on
returns-in-Repeat-clause-goes_on g c = λ told p apart.
    let f : g.row.D.Denot → DiskSeen = λ disk. seen_as (g.D.Disk.size disk) (g.D.Disk.stands disk) (g.D.Disk.faults disk) in
    goes_as c.args.self.now.logs c.step-in-Repeat.new.self.logs (map f c.args.disks.now) p c.step-in-Repeat.ensures.logs

pub returns-in-Start-clause-goes_on : goal.returns-in-Start-clause-goes_on
returns-in-Start-clause-goes_on g c = λ told p apart.
    let f : g.row.D.Denot → DiskSeen = λ disk. seen_as (g.D.Disk.size disk) (g.D.Disk.stands disk) (g.D.Disk.faults disk) in
    goes_as c.args.self.now.logs c.step-in-Start.new.self.logs (map f c.args.disks.now) p c.step-in-Start.ensures.logs

pub returns-in-Fail-clause-goes_on : goal.returns-in-Fail-clause-goes_on
returns-in-Fail-clause-goes_on g c = λ told p apart.
    let f : g.row.D.Denot → DiskSeen = λ disk. seen_as (g.D.Disk.size disk) (g.D.Disk.stands disk) (g.D.Disk.faults disk) in
    goes_fewer c.args.self.now.logs c.fail.new.self.logs (map f c.args.disks.now) p c.fail.ensures.logs

pub returns-in-Reclaim-clause-goes_on : goal.returns-in-Reclaim-clause-goes_on
returns-in-Reclaim-clause-goes_on g c = λ told p apart.
    let f : g.row.D.Denot → DiskSeen = λ disk. seen_as (g.D.Disk.size disk) (g.D.Disk.stands disk) (g.D.Disk.faults disk) in
    goes_same c.args.self.now.logs (map f c.args.disks.now) p

pub returns-in-Some-clause-goes_on : goal.returns-in-Some-clause-goes_on
returns-in-Some-clause-goes_on g c = λ told p apart.
    let f : g.row.D.Denot → DiskSeen = λ disk. seen_as (g.D.Disk.size disk) (g.D.Disk.stands disk) (g.D.Disk.faults disk) in
    goes_same c.args.self.now.logs (map f c.args.disks.now) p

pub returns-in-Start-clause-joins : goal.returns-in-Start-clause-joins
returns-in-Start-clause-joins g c = λ p another apart. c.step-in-Start.ensures.joins p (starts_another c.args.command c.in-Start.peer p c.in-Start.is another) apart

pub returns-in-Nudge-clause-joins : goal.returns-in-Nudge-clause-joins
returns-in-Nudge-clause-joins g c = λ p another apart. c.step.ensures.joins p refl apart

pub returns-in-Deliver-clause-joins : goal.returns-in-Deliver-clause-joins
returns-in-Deliver-clause-joins g c = λ p another apart. c.step-in-Deliver.ensures.joins p refl apart

pub returns-in-Lose-clause-joins : goal.returns-in-Lose-clause-joins
returns-in-Lose-clause-joins g c = λ p another apart. c.step-in-Lose.ensures.joins p refl apart

pub returns-in-Repeat-clause-joins : goal.returns-in-Repeat-clause-joins
returns-in-Repeat-clause-joins g c = λ p another apart. c.step-in-Repeat.ensures.joins p refl apart
