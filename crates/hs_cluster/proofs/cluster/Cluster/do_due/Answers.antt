use Rattle.std.proofs.Common.{◌≡◌, Some, arith, map, refl, subst, sym, ap, inl}
use Rattle.hs_cluster.proofs.CopyLemmas.{beside_same}
use Rattle.hs_cluster.proofs.GrowingLemmas.{goes_as}
use Rattle.hs_cluster.specs.Jobs.{StandsBeside}
use Rattle.hs_core_words.specs.Looking.{first_job}
use Rattle.hs_events.specs.Due.{peer_due}
use Rattle.hs_cluster.proofs.ShowLemmas.{any_shows, quiet_shows}
use Rattle.hs_cluster.proofs.WalkLemmas.{deliver_of, event_due, nudge_of}
use Rattle.hs_cluster.specs.Calls.{Does, done_of}
use Rattle.hs_cluster.specs.Disks.{DiskSeen, log_at, seen_as}
use Rattle.hs_core_words.specs.declared.event.Event.{Event}
use Rattle.hs_core_words.specs.declared.event.Event.TheVariants as event
use Rattle.hs_cluster.specs.Kept.{Shows}
use Rattle.hs_cluster.specs.Settling.{DoesDue}
use Rattle.hs_cluster.proofs.cluster.Cluster.do_due.Goals as goal

pub returns-in-Handling-clause-does : goal.returns-in-Handling-clause-does
returns-in-Handling-clause-does g c =
    let f : g.row.D.Denot → DiskSeen = λ disk. seen_as (g.D.Disk.size disk) (g.D.Disk.stands disk) (g.D.Disk.faults disk) in
    let old = c.args.self.now in
    let new = c.step.new.self in
    let r = c.step.result in
    let e : Event = event.Deliver c.args.line c.in-Handling.message in
    let does : Does (done_of r (e, c.args.watch.now)) old new r = subst (λ k. Does (done_of r (e, k)) old new r) c.now.ensures.value c.step.ensures.does in
    let shows = any_shows g.D.Disk.tells (record { before = c.args.watch.now; now = c.args.watch.now; old = old; new = new; disks = map f c.args.disks.now; left = map f c.args.disks.now }) r (done_of r (e, c.args.watch.now)) (quiet_shows e c.args.watch.now old new (map f c.args.disks.now) r refl c.requires.going does (λ p keeping at. subst (λ l. log_at l p ≡ Some keeping) c.step.ensures.logs at) (λ p. inl (ap (λ l. log_at l p) c.step.ensures.logs)) c.step.ensures.cache) in
    event_due c.args.line c.args.due c.args.watch.now c.args.watch.now old new e c.args.watch.now r _
    (deliver_of c.args.line old.core c.args.due _ c.in-Handling.message c.in-Handling.is) (omega arith) (omega arith) does shows

pub returns-in-Nudging-clause-does : goal.returns-in-Nudging-clause-does
returns-in-Nudging-clause-does g c =
    let f : g.row.D.Denot → DiskSeen = λ disk. seen_as (g.D.Disk.size disk) (g.D.Disk.stands disk) (g.D.Disk.faults disk) in
    let old = c.args.self.now in
    let new = c.step-in-Nudging.new.self in
    let r = c.step-in-Nudging.result in
    let e : Event = event.Nudge c.args.line c.in-Nudging.peer in
    let does : Does (done_of r (e, c.args.watch.now)) old new r = subst (λ k. Does (done_of r (e, k)) old new r) c.now-in-Nudging.ensures.value c.step-in-Nudging.ensures.does in
    let shows = any_shows g.D.Disk.tells (record { before = c.args.watch.now; now = c.args.watch.now; old = old; new = new; disks = map f c.args.disks.now; left = map f c.args.disks.now }) r (done_of r (e, c.args.watch.now)) (quiet_shows e c.args.watch.now old new (map f c.args.disks.now) r refl c.requires.going does (λ p keeping at. subst (λ l. log_at l p ≡ Some keeping) c.step-in-Nudging.ensures.logs at) (λ p. inl (ap (λ l. log_at l p) c.step-in-Nudging.ensures.logs)) c.step-in-Nudging.ensures.cache) in
    event_due c.args.line c.args.due c.args.watch.now c.args.watch.now old new e c.args.watch.now r _
    (nudge_of c.args.line old.core c.args.due c.in-Nudging.peer c.in-Nudging.is) (omega arith) (omega arith) does shows

pub returns-in-Reporting-clause-does : goal.returns-in-Reporting-clause-does
returns-in-Reporting-clause-does g c =
    let f : g.row.D.Denot → DiskSeen = λ disk. seen_as (g.D.Disk.size disk) (g.D.Disk.stands disk) (g.D.Disk.faults disk) in
    subst (λ d. DoesDue c.args.line d c.args.watch.now c.report.new.watch c.args.self.now c.report.new.self c.report.result
    (Shows g.D.Disk.tells (record { before = c.args.watch.now; now = c.report.new.watch; old = c.args.self.now; new = c.report.new.self; disks = map f c.args.disks.now; left = map f c.report.new.disks }) c.report.result))
    (sym c.in-Reporting.is) (c.report.ensures.does c.args.line)

pub returns-in-Handling-clause-beside : goal.returns-in-Handling-clause-beside
returns-in-Handling-clause-beside g c =
    let f : g.row.D.Denot → DiskSeen = λ disk. seen_as (g.D.Disk.size disk) (g.D.Disk.stands disk) (g.D.Disk.faults disk) in
    beside_same g.D.Disk.tells (peer_due c.args.due) (first_job (peer_due c.args.due) c.args.self.now.core) (map f c.args.disks.now)

pub returns-in-Nudging-clause-beside : goal.returns-in-Nudging-clause-beside
returns-in-Nudging-clause-beside g c =
    let f : g.row.D.Denot → DiskSeen = λ disk. seen_as (g.D.Disk.size disk) (g.D.Disk.stands disk) (g.D.Disk.faults disk) in
    beside_same g.D.Disk.tells (peer_due c.args.due) (first_job (peer_due c.args.due) c.args.self.now.core) (map f c.args.disks.now)

pub returns-in-Reporting-clause-beside : goal.returns-in-Reporting-clause-beside
returns-in-Reporting-clause-beside g c =
    let f : g.row.D.Denot → DiskSeen = λ disk. seen_as (g.D.Disk.size disk) (g.D.Disk.stands disk) (g.D.Disk.faults disk) in
    subst (λ d. StandsBeside g.D.Disk.tells (peer_due d) (first_job (peer_due d) c.args.self.now.core) (map f c.args.disks.now) (map f c.report.new.disks)) (sym c.in-Reporting.is) c.report.ensures.beside

pub returns-in-Handling-clause-goes_on : goal.returns-in-Handling-clause-goes_on
returns-in-Handling-clause-goes_on g c = λ told p apart.
    let f : g.row.D.Denot → DiskSeen = λ disk. seen_as (g.D.Disk.size disk) (g.D.Disk.stands disk) (g.D.Disk.faults disk) in
    goes_as c.args.self.now.logs c.step.new.self.logs (map f c.args.disks.now) p c.step.ensures.logs

pub returns-in-Handling-clause-joins : goal.returns-in-Handling-clause-joins
returns-in-Handling-clause-joins g c = λ p apart. c.step.ensures.joins p refl apart

pub returns-in-Nudging-clause-goes_on : goal.returns-in-Nudging-clause-goes_on
returns-in-Nudging-clause-goes_on g c = λ told p apart.
    let f : g.row.D.Denot → DiskSeen = λ disk. seen_as (g.D.Disk.size disk) (g.D.Disk.stands disk) (g.D.Disk.faults disk) in
    goes_as c.args.self.now.logs c.step-in-Nudging.new.self.logs (map f c.args.disks.now) p c.step-in-Nudging.ensures.logs

pub returns-in-Nudging-clause-joins : goal.returns-in-Nudging-clause-joins
returns-in-Nudging-clause-joins g c = λ p apart. c.step-in-Nudging.ensures.joins p refl apart
