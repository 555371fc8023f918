use Rattle.std.proofs.Common.{◌≡◌, ℕ, Some, ap, arith, false, map, refl, subst, sym, true}
use Rattle.std.specs.Prelude.{IsSome, Ok, Option}
use Rattle.hs_cluster.proofs.DiskLemmas.{since_of}
use Rattle.hs_cluster.proofs.PeerShowLemmas.{PaysFor}
use Rattle.hs_cluster.proofs.ShowLemmas.{does_same, job_cut, job_shows}
use Rattle.hs_cluster.proofs.WalkLemmas.{event_due, nothing_due, report_is_it}
use Rattle.hs_cluster.specs.Cached.{AreBlocks, KeepsRead}
use Rattle.hs_cluster.specs.Calls.{Does, done_of}
use Rattle.hs_cluster.specs.declared.fault.ClusterFault.{ClusterFault}
use Rattle.hs_cluster.specs.Counts.{HasPaid}
use Rattle.hs_cluster.specs.Disks.{DiskSeen, log_at, seen_as, stands_of}
use Rattle.hs_cluster.specs.Growing.{GoesOn}
use Rattle.hs_cluster.specs.Headed.{IsHeadedAt, StaysHeadedAt}
use Rattle.hs_cluster.specs.Jobs.{StandsBeside, Works, WorksAlone, is_own, ReadsLog}
use Rattle.hs_cluster.specs.Running.{Running}
use Rattle.hs_core_words.specs.declared.event.Event.{Event}
use Rattle.hs_core_words.specs.declared.event.Event.TheVariants as event
use Rattle.hs_core_words.specs.Looking.{first_job, status_of, front_of, home}
use Rattle.hs_desk.specs.declared.job.Job.{Job}
use Rattle.hs_desk.specs.declared.job.Job.TheVariants as job
use Rattle.hs_entry.specs.declared.entry.Entry.{Entry}
use Rattle.hs_events.specs.Asked.{failed_disk}
use Rattle.hs_events.specs.declared.due.Due.TheVariants.{Reporting}
use Rattle.hs_events.specs.Due.{is_answer}
use Rattle.hs_events.specs.Reports.{TellsOf}
use Rattle.hs_fold.specs.Shards.Setting.{Numbered}
use Rattle.hs_members.specs.Members.{is_joining}
use Rattle.hs_peerlog.specs.Lists.{IsKept, Keeping}
use Rattle.hs_ports.specs.Moments.{disk_at}
use Rattle.hs_side.specs.Headers.{own_header}
use Rattle.hs_cluster.proofs.cluster.Cluster.report.Goals as goal

pub returns-in_default-clause-does : goal.returns-in_default-clause-does
returns-in_default-clause-does g c = λ line.
    let f : g.row.D.Denot → DiskSeen = λ disk. seen_as (g.D.Disk.size disk) (g.D.Disk.stands disk) (g.D.Disk.faults disk) in
    nothing_due line (Reporting c.args.peer) c.args.watch.now c.do_first-done.new.watch c.args.self.now _ _ c.requires.going c.do_first-done.ensures.ticks
    (ap (λ (r : Running). r.course) c.self.view_is) (ap (λ (r : Running). r.core) c.self.view_is)
    (job_cut g.D.Disk.tells c.args.watch.now c.do_first-done.new.watch c.args.peer c.args.self.now _ c.do_first-done.new.logs.items (map f c.args.disks.now) (map f c.do_first-done.new.disks) c.do_first-done.result c.requires.peer c.do_first-done.ensures.ticks
    c.requires.going (λ told. since_of f c.args.disks.now (g.met.D.Disk.since told))
    (λ told. subst (λ (r : Running). is_own (first_job c.args.peer r.core) ≡ true → WorksAlone {E = ClusterFault} (record {
      peer = c.args.peer;
      before = c.args.watch.now;
      now = c.do_first-done.new.watch;
      logs = r.logs;
      after = c.do_first-done.new.logs.items;
      disks = map f c.args.disks.now;
      left = map f c.do_first-done.new.disks;
    }) (first_job c.args.peer r.core) c.do_first-done.result) c.self.view_is (λ own. (c.do_first-done.ensures.works told).alone own))
    (λ told. subst (λ (r : Running). Works {E = ClusterFault} (own_header r.core.members.shape c.args.peer) (record {
      peer = c.args.peer;
      before = c.args.watch.now;
      now = c.do_first-done.new.watch;
      logs = r.logs;
      after = c.do_first-done.new.logs.items;
      disks = map f c.args.disks.now;
      left = map f c.do_first-done.new.disks;
    }) (first_job c.args.peer r.core) c.do_first-done.result) c.self.view_is (c.do_first-done.ensures.works told))
    c.do_first-done.ensures.later
    (λ told. subst (λ (r : Running). (p : ℕ) → IsHeadedAt (own_header r.core.members.shape p) c.args.watch.now r.logs (map f c.args.disks.now) p
    → StaysHeadedAt (own_header r.core.members.shape p) c.args.watch.now c.do_first-done.new.watch (map f c.args.disks.now) c.do_first-done.new.logs.items (map f c.do_first-done.new.disks) p) c.self.view_is (c.do_first-done.ensures.headed told)))

pub returns-clause-does : goal.returns-clause-does
returns-clause-does g c = λ line.
    let f : g.row.D.Denot → DiskSeen = λ disk. seen_as (g.D.Disk.size disk) (g.D.Disk.stands disk) (g.D.Disk.faults disk) in
    let old = c.args.self.now in
    let new = c.step.new.self in
    let now = c.do_first-done.new.watch in
    let e : Event = event.Report c.args.peer c.in-Ok.done in
    let core = ap (λ (r : Running). r.core) c.self.view_is in
    let answer : is_answer old.core c.args.peer c.in-Ok.done ≡ true = subst (λ x. is_answer x c.args.peer c.in-Ok.done ≡ true) core c.in-Ok.ensures.answer in
    let does : Does (done_of c.step.result (e, now)) old new c.step.result =
    subst (λ k. Does (done_of c.step.result (e, k)) old new c.step.result) c.now.ensures.value
    (does_same (done_of c.step.result (e, c.now.result)) _ old new c.step.result core (ap (λ (r : Running). r.course) c.self.view_is) c.step.ensures.does) in
    event_due line (Reporting c.args.peer) c.args.watch.now now old new e now c.step.result _ (report_is_it line old.core c.args.peer c.in-Ok.done answer) c.do_first-done.ensures.ticks (omega arith) does
    (job_shows g.D.Disk.tells c.args.watch.now now c.args.peer old new c.do_first-done.new.logs.items (map f c.args.disks.now) (map f c.do_first-done.new.disks) ClusterFault c.in-Ok.done c.step.result c.requires.peer c.do_first-done.ensures.ticks c.requires.going answer
    (λ told. since_of f c.args.disks.now (g.met.D.Disk.since told))
    (λ told. subst (λ (r : Running). is_own (first_job c.args.peer r.core) ≡ true → WorksAlone {E = ClusterFault} (record {
      peer = c.args.peer;
      before = c.args.watch.now;
      now = c.do_first-done.new.watch;
      logs = r.logs;
      after = c.do_first-done.new.logs.items;
      disks = map f c.args.disks.now;
      left = map f c.do_first-done.new.disks;
    }) (first_job c.args.peer r.core) (Ok c.in-Ok.done)) c.self.view_is (λ own. (c.in-Ok.ensures.works told).alone own))
    c.step.ensures.logs does c.do_first-done.ensures.later
    (subst (λ (r : Running). HasPaid r.core c.args.peer c.in-Ok.done (map f c.args.disks.now) (map f c.do_first-done.new.disks)) c.self.view_is c.in-Ok.ensures.paid) c.in-Ok.ensures.calm c.in-Ok.ensures.bytes
    (subst (λ (r : Running). is_own (first_job c.args.peer r.core) ≡ true → IsSome (log_at r.logs c.args.peer)) c.self.view_is c.in-Ok.ensures.had)
    (λ told. subst (λ (r : Running). is_own (first_job c.args.peer r.core) ≡ true → (list : Numbered) (waiting : Option Entry)
    → ((keeping : Keeping) → log_at r.logs c.args.peer ≡ Some keeping → IsKept keeping ((disk_at (stands_of (map f c.args.disks.now)) c.args.peer).seen keeping.log.side) list waiting)
    → (j : Job) → first_job c.args.peer r.core ≡ Some j → ReadsLog (failed_disk c.in-Ok.done) (log_at c.do_first-done.new.logs.items c.args.peer) (disk_at (stands_of (map f c.do_first-done.new.disks)) c.args.peer) j list waiting)
    c.self.view_is (c.in-Ok.ensures.reads told))
    (λ told. subst (λ (r : Running). is_own (first_job c.args.peer r.core) ≡ true → (list : Numbered) (waiting : Option Entry)
    → ((keeping : Keeping) → log_at r.logs c.args.peer ≡ Some keeping → IsKept keeping ((disk_at (stands_of (map f c.args.disks.now)) c.args.peer).seen keeping.log.side) list waiting)
    → ((number : ℕ) → first_job c.args.peer r.core ≡ Some (job.Read number) → AreBlocks r.cache (home c.args.peer r.core) list) → TellsOf c.in-Ok.done (Some list))
    c.self.view_is (c.in-Ok.ensures.told told))
    (subst (λ o. KeepsRead (home c.args.peer old.core) (front_of (home c.args.peer old.core) old.core) c.in-Ok.done old.cache o) (sym c.step.ensures.cache)
    (subst (λ (r : Running). KeepsRead (home c.args.peer r.core) (front_of (home c.args.peer r.core) r.core) c.in-Ok.done r.cache c.do_first-done.new.cache) c.self.view_is c.in-Ok.ensures.kept))
    (λ told. subst (λ (r : Running). Works {E = ClusterFault} (own_header r.core.members.shape c.args.peer) (record {
      peer = c.args.peer;
      before = c.args.watch.now;
      now = c.do_first-done.new.watch;
      logs = r.logs;
      after = c.do_first-done.new.logs.items;
      disks = map f c.args.disks.now;
      left = map f c.do_first-done.new.disks;
    }) (first_job c.args.peer r.core) (Ok c.in-Ok.done)) c.self.view_is (c.in-Ok.ensures.works told))
    (λ told. subst (λ (r : Running). (p : ℕ) → IsHeadedAt (own_header r.core.members.shape p) c.args.watch.now r.logs (map f c.args.disks.now) p
    → StaysHeadedAt (own_header r.core.members.shape p) c.args.watch.now c.do_first-done.new.watch (map f c.args.disks.now) c.do_first-done.new.logs.items (map f c.do_first-done.new.disks) p) c.self.view_is (c.do_first-done.ensures.headed told))
    (λ told. subst (λ (r : Running). PaysFor c.args.peer c.in-Ok.done r.core r.logs (map f c.args.disks.now) (map f c.do_first-done.new.disks)) c.self.view_is
    (record { own = c.in-Ok.ensures.read told; emptied = c.in-Ok.ensures.emptied; copied = c.in-Ok.ensures.copied told })))

pub returns-in_default-clause-beside : goal.returns-in_default-clause-beside
returns-in_default-clause-beside g c =
    let f : g.row.D.Denot → DiskSeen = λ disk. seen_as (g.D.Disk.size disk) (g.D.Disk.stands disk) (g.D.Disk.faults disk) in
    subst (λ (r : Running). StandsBeside g.D.Disk.tells c.args.peer (first_job c.args.peer r.core) (map f c.args.disks.now) (map f c.do_first-done.new.disks)) c.self.view_is c.do_first-done.ensures.beside

pub returns-clause-beside : goal.returns-clause-beside
returns-clause-beside g c =
    let f : g.row.D.Denot → DiskSeen = λ disk. seen_as (g.D.Disk.size disk) (g.D.Disk.stands disk) (g.D.Disk.faults disk) in
    subst (λ (r : Running). StandsBeside g.D.Disk.tells c.args.peer (first_job c.args.peer r.core) (map f c.args.disks.now) (map f c.do_first-done.new.disks)) c.self.view_is c.do_first-done.ensures.beside

pub returns-in_default-clause-goes_on : goal.returns-in_default-clause-goes_on
returns-in_default-clause-goes_on g c = λ told p apart.
    let f : g.row.D.Denot → DiskSeen = λ disk. seen_as (g.D.Disk.size disk) (g.D.Disk.stands disk) (g.D.Disk.faults disk) in
    subst (λ (r : Running). is_joining (status_of p r.core) ≡ false → GoesOn r.logs (map f c.args.disks.now) c.do_first-done.new.logs.items (map f c.do_first-done.new.disks) p) c.self.view_is (c.do_first-done.ensures.goes_on told p) apart

pub returns-clause-goes_on : goal.returns-clause-goes_on
returns-clause-goes_on g c = λ told p apart.
    let f : g.row.D.Denot → DiskSeen = λ disk. seen_as (g.D.Disk.size disk) (g.D.Disk.stands disk) (g.D.Disk.faults disk) in
    subst (λ l. GoesOn c.args.self.now.logs (map f c.args.disks.now) l (map f c.do_first-done.new.disks) p) (sym c.step.ensures.logs)
    (subst (λ (r : Running). is_joining (status_of p r.core) ≡ false → GoesOn r.logs (map f c.args.disks.now) c.do_first-done.new.logs.items (map f c.do_first-done.new.disks) p) c.self.view_is (c.do_first-done.ensures.goes_on told p) apart)

pub returns-clause-joins : goal.returns-clause-joins
returns-clause-joins g c = λ p apart. c.step.ensures.joins p refl (subst (λ (r : Running). is_joining (status_of p r.core) ≡ false) (sym c.self.view_is) apart)
