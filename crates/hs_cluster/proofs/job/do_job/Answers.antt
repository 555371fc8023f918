use Rattle.std.proofs.Common.{rules, ◌≡◌, ◌∙◌, ◌<◌, Some, false, ap, arith, length, map, refl, slice_set, subst, sym, true}
use Rattle.std.proofs.lemmas.Grind.{common_steps}
use Rattle.std.specs.Prelude.{IfOk, IsSome, slice_index_or}
use Rattle.hs_cluster.proofs.CopyLemmas.{beside_one, beside_same, copy_not_reset, copy_same, usual_not, usual_own, works_cut, works_own, works_reset}
use Rattle.hs_cluster.proofs.CountLemmas.{all_paid_result, copy_paid_result, falls_not, falls_same, job_paid_result, paid_at, stand_at, told_paid_result}
use Rattle.hs_cluster.proofs.DiskLemmas.{log_read, not_own, reads_at, since_of, slot_at, stored_as, works_at, works_nothing}
use Rattle.hs_cluster.proofs.GrowingLemmas.{goes_at, goes_same}
use Rattle.hs_cluster.proofs.HeadLemmas.{heads_at, heads_stay}
use Rattle.hs_cluster.specs.Disks.{DiskSeen, log_at, seen_as, stands_of}
use Rattle.hs_cluster.specs.declared.fault.ClusterFault.TheVariants.{NoMemory}
use Rattle.hs_cluster.specs.Headed.{IsHeaded, StaysHeaded}
use Rattle.hs_cluster.specs.Jobs.{FailsAlone, StandsBeside, Works, WorksAlone, is_own}
use Rattle.hs_core_words.specs.Looking.{catalogue_of, first_job, home, status_of}
use Rattle.hs_desk.specs.declared.job.Job.{Job}
use Rattle.hs_desk.specs.declared.job.Job.TheVariants as job
use Rattle.hs_limits.specs.declared.shape.Shape.{Shape}
use Rattle.hs_members.specs.Members.{home_of, is_joining}
use Rattle.hs_peerlog.specs.Lists.{IsKept, Keeping, numbered_entry}
use Rattle.hs_ports.specs.Moments.{disk_at}
use Rattle.hs_side.specs.Headers.{own_header}
use Rattle.hs_cluster.proofs.job.do_job.Goals as goal

pub do_usual-requires : goal.do_usual-requires
do_usual-requires g c =
    let f : g.row.D.Denot → DiskSeen = λ disk. seen_as (g.D.Disk.size disk) (g.D.Disk.stands disk) (g.D.Disk.faults disk) in
    let item : c.index_mut-in-Append.result.now ≡ log_at c.args.logs.now.items c.from-place.result = grind (arith, common_steps) in
    let low : c.from-place.result < length c.args.disks.now = grind (arith, common_steps) in
    record { usual = usual_own c.in-Some.job.now c.in-Append.is; ready = slot_at g.D.Disk.tells c.args.logs.now.items c.args.disks.now f c.from-place.result c.index_mut-in-Append.result.now c.index-disks-place-in-Append.result c.requires.ready item low }

pub returns-in_default-clause-works : goal.returns-in_default-clause-works
returns-in_default-clause-works g c = λ told.
    let f : g.row.D.Denot → DiskSeen = λ disk. seen_as (g.D.Disk.size disk) (g.D.Disk.stands disk) (g.D.Disk.faults disk) in
    works_cut (own_header c.args.core.now.members.shape c.args.peer) c.args.logs.now.items c.args.disks.now f c.args.peer c.args.watch.now (first_job c.args.peer c.args.core.now) NoMemory
    (since_of f c.args.disks.now (g.met.D.Disk.since told) c.args.peer)
    (λ own. works_nothing c.args.logs.now.items c.args.disks.now f c.args.peer c.args.watch.now (first_job c.args.peer c.args.core.now) NoMemory (since_of f c.args.disks.now (g.met.D.Disk.since told) c.args.peer))

pub returns-in-Reset-clause-works : goal.returns-in-Reset-clause-works
returns-in-Reset-clause-works g c = λ told.
    let f : g.row.D.Denot → DiskSeen = λ disk. seen_as (g.D.Disk.size disk) (g.D.Disk.stands disk) (g.D.Disk.faults disk) in
    let item : c.index_mut.result.now ≡ log_at c.args.logs.now.items c.from-place.result = grind (arith, common_steps) in
    let low : c.from-place.result < length c.args.disks.now = grind (arith, common_steps) in
    let low_logs : c.from-place.result < length c.args.logs.now.items = grind (arith, common_steps) in
    let place : c.from-place.result ≡ c.args.peer = grind (arith, common_steps) in
    let first : Some c.in-Some.job.now ≡ first_job c.args.peer c.args.core.now = first_of (search rules, grind (arith, common_steps)) in
    subst (λ k. Works (own_header c.args.core.now.members.shape c.args.peer) (record {
      peer = k;
      before = c.args.watch.now;
      now = c.do_reset.new.watch;
      logs = c.args.logs.now.items;
      after = slice_set c.args.logs.now.items c.from-place.result c.do_reset.new.slot;
      disks = map f c.args.disks.now;
      left = map f (slice_set c.args.disks.now c.from-place.result c.do_reset.new.disk);
    }) (first_job c.args.peer c.args.core.now) c.do_reset.result) place
    (works_reset (own_header c.args.core.now.members.shape c.args.peer) c.args.logs.now.items c.args.disks.now f c.from-place.result c.args.watch.now c.do_reset.new.watch c.index_mut.result.now c.do_reset.new.slot c.index-disks-place.result c.do_reset.new.disk
    (first_job c.args.peer c.args.core.now) c.do_reset.result item low_logs low (sym first ∙ ap (λ (j : Job). Some j) c.in-Reset.is)
    (c.do_reset.ensures.empties told)
    (subst (λ k. IfOk c.do_reset.result (FailsAlone k)) (sym place) c.do_reset.ensures.fails))

pub returns-in-Copy-clause-works : goal.returns-in-Copy-clause-works
returns-in-Copy-clause-works g c = λ told.
    let f : g.row.D.Denot → DiskSeen = λ disk. seen_as (g.D.Disk.size disk) (g.D.Disk.stands disk) (g.D.Disk.faults disk) in
    let first : Some c.in-Some.job.now ≡ first_job c.args.peer c.args.core.now = first_of (search rules, grind (arith, common_steps)) in
    subst (λ o. Works (own_header c.args.core.now.members.shape c.args.peer) (record {
      peer = c.args.peer;
      before = c.args.watch.now;
      now = c.do_copy.new.watch;
      logs = c.args.logs.now.items;
      after = c.do_copy.new.logs.items;
      disks = map f c.args.disks.now;
      left = map f c.do_copy.new.disks;
    }) o c.do_copy.result) (sym (ap (λ (j : Job). Some j) c.in-Copy.is) ∙ first) (c.do_copy.ensures.works (own_header c.args.core.now.members.shape c.args.peer) told)

pub returns-in-Append-clause-works : goal.returns-in-Append-clause-works
returns-in-Append-clause-works g c = λ told.
    let f : g.row.D.Denot → DiskSeen = λ disk. seen_as (g.D.Disk.size disk) (g.D.Disk.stands disk) (g.D.Disk.faults disk) in
    let item : c.index_mut-in-Append.result.now ≡ log_at c.args.logs.now.items c.from-place.result = grind (arith, common_steps) in
    let low : c.from-place.result < length c.args.disks.now = grind (arith, common_steps) in
    let low_logs : c.from-place.result < length c.args.logs.now.items = grind (arith, common_steps) in
    let place : c.from-place.result ≡ c.args.peer = grind (arith, common_steps) in
    let first : Some c.in-Some.job.now ≡ first_job c.args.peer c.args.core.now = first_of (search rules, grind (arith, common_steps)) in
    let works = subst (λ k. WorksAlone (record {
      peer = k;
      before = c.args.watch.now;
      now = c.do_usual.new.watch;
      logs = c.args.logs.now.items;
      after = slice_set c.args.logs.now.items c.from-place.result c.do_usual.new.slot;
      disks = map f c.args.disks.now;
      left = map f (slice_set c.args.disks.now c.from-place.result c.do_usual.new.disk);
    }) (first_job c.args.peer c.args.core.now) c.do_usual.result) place
    (works_at c.args.logs.now.items c.args.disks.now f c.from-place.result c.args.watch.now c.do_usual.new.watch c.index_mut-in-Append.result.now c.do_usual.new.slot c.index-disks-place-in-Append.result c.do_usual.new.disk
    (Some c.in-Some.job.now) (first_job c.args.peer c.args.core.now) c.do_usual.result item low_logs low first (c.do_usual.ensures.tries told)) in
    let usual : is_own (Some c.in-Some.job.now) ≡ true = usual_own c.in-Some.job.now c.in-Append.is in
    works_own (own_header c.args.core.now.members.shape c.args.peer) _ (first_job c.args.peer c.args.core.now) c.do_usual.result (ap is_own (sym first) ∙ usual) works c.do_usual.ensures.fails

-- ---- the counts

pub returns-in_default-clause-later : goal.returns-in_default-clause-later
returns-in_default-clause-later g c =
    let f : g.row.D.Denot → DiskSeen = λ disk. seen_as (g.D.Disk.size disk) (g.D.Disk.stands disk) (g.D.Disk.faults disk) in
    falls_same (map f c.args.disks.now)

pub returns-in-Reset-clause-later : goal.returns-in-Reset-clause-later
returns-in-Reset-clause-later g c =
    let f : g.row.D.Denot → DiskSeen = λ disk. seen_as (g.D.Disk.size disk) (g.D.Disk.stands disk) (g.D.Disk.faults disk) in
    let low : c.from-place.result < length c.args.disks.now = grind (arith, common_steps) in
    falls_not f c.args.disks.now c.from-place.result c.index-disks-place.result c.do_reset.new.disk low c.do_reset.ensures.later

pub returns-in-Reset-clause-paid : goal.returns-in-Reset-clause-paid
returns-in-Reset-clause-paid g c =
    let f : g.row.D.Denot → DiskSeen = λ disk. seen_as (g.D.Disk.size disk) (g.D.Disk.stands disk) (g.D.Disk.faults disk) in
    let low : c.from-place.result < length c.args.disks.now = grind (arith, common_steps) in
    let place : c.from-place.result ≡ c.args.peer = grind (arith, common_steps) in
    let first : Some c.in-Some.job.now ≡ first_job c.args.peer c.args.core.now = first_of (search rules, grind (arith, common_steps)) in
    let is : first_job c.args.peer c.args.core.now ≡ Some job.Reset = sym first ∙ ap (λ (j : Job). Some j) c.in-Reset.is in
    job_paid_result c.args.core.now c.args.peer job.Reset c.do_reset.result (map f c.args.disks.now) (map f (slice_set c.args.disks.now c.from-place.result c.do_reset.new.disk)) is
    (λ at only. paid_at f c.args.disks.now c.args.peer c.from-place.result c.index-disks-place.result c.do_reset.new.disk c.do_reset.result place low c.do_reset.ensures.paid)

pub returns-in-Copy-clause-paid : goal.returns-in-Copy-clause-paid
returns-in-Copy-clause-paid g c =
    let f : g.row.D.Denot → DiskSeen = λ disk. seen_as (g.D.Disk.size disk) (g.D.Disk.stands disk) (g.D.Disk.faults disk) in
    let first : Some c.in-Some.job.now ≡ first_job c.args.peer c.args.core.now = first_of (search rules, grind (arith, common_steps)) in
    let is : first_job c.args.peer c.args.core.now ≡ Some (job.Copy c.in-Copy.from c.in-Copy.number) = sym first ∙ ap (λ (j : Job). Some j) c.in-Copy.is in
    copy_paid_result c.args.core.now c.args.peer c.in-Copy.from c.in-Copy.number c.do_copy.result (map f c.args.disks.now) (map f c.do_copy.new.disks) is c.do_copy.ensures.paid

pub returns-in-Append-clause-later : goal.returns-in-Append-clause-later
returns-in-Append-clause-later g c =
    let f : g.row.D.Denot → DiskSeen = λ disk. seen_as (g.D.Disk.size disk) (g.D.Disk.stands disk) (g.D.Disk.faults disk) in
    let low : c.from-place.result < length c.args.disks.now = grind (arith, common_steps) in
    falls_not f c.args.disks.now c.from-place.result c.index-disks-place-in-Append.result c.do_usual.new.disk low c.do_usual.ensures.later

pub returns-in-Append-clause-paid : goal.returns-in-Append-clause-paid
returns-in-Append-clause-paid g c =
    let f : g.row.D.Denot → DiskSeen = λ disk. seen_as (g.D.Disk.size disk) (g.D.Disk.stands disk) (g.D.Disk.faults disk) in
    let low : c.from-place.result < length c.args.disks.now = grind (arith, common_steps) in
    let place : c.from-place.result ≡ c.args.peer = grind (arith, common_steps) in
    let first : Some c.in-Some.job.now ≡ first_job c.args.peer c.args.core.now = first_of (search rules, grind (arith, common_steps)) in
    job_paid_result c.args.core.now c.args.peer c.in-Some.job.now c.do_usual.result (map f c.args.disks.now) (map f (slice_set c.args.disks.now c.from-place.result c.do_usual.new.disk)) (sym first)
    (λ at only. paid_at f c.args.disks.now c.args.peer c.from-place.result c.index-disks-place-in-Append.result c.do_usual.new.disk c.do_usual.result place low (c.do_usual.ensures.paid at only))

pub returns-in-Reset-clause-calm : goal.returns-in-Reset-clause-calm
returns-in-Reset-clause-calm g c =
    let f : g.row.D.Denot → DiskSeen = λ disk. seen_as (g.D.Disk.size disk) (g.D.Disk.stands disk) (g.D.Disk.faults disk) in
    let low : c.from-place.result < length c.args.disks.now = grind (arith, common_steps) in
    let place : c.from-place.result ≡ c.args.peer = grind (arith, common_steps) in
    stand_at f c.args.disks.now c.args.peer c.from-place.result c.index-disks-place.result c.do_reset.new.disk c.do_reset.result place low c.do_reset.ensures.calm

pub returns-in-Copy-clause-calm : goal.returns-in-Copy-clause-calm
returns-in-Copy-clause-calm g c = c.do_copy.ensures.calm

pub returns-in-Append-clause-calm : goal.returns-in-Append-clause-calm
returns-in-Append-clause-calm g c =
    let f : g.row.D.Denot → DiskSeen = λ disk. seen_as (g.D.Disk.size disk) (g.D.Disk.stands disk) (g.D.Disk.faults disk) in
    let low : c.from-place.result < length c.args.disks.now = grind (arith, common_steps) in
    let place : c.from-place.result ≡ c.args.peer = grind (arith, common_steps) in
    stand_at f c.args.disks.now c.args.peer c.from-place.result c.index-disks-place-in-Append.result c.do_usual.new.disk c.do_usual.result place low c.do_usual.ensures.calm

-- ---- a job that only read

pub returns-in_default-clause-read : goal.returns-in_default-clause-read
returns-in_default-clause-read g c = λ told own list waiting has stored. tt

pub returns-in-Reset-clause-read : goal.returns-in-Reset-clause-read
returns-in-Reset-clause-read g c = λ told own list waiting has stored.
    let first : Some c.in-Some.job.now ≡ first_job c.args.peer c.args.core.now = first_of (search rules, grind (arith, common_steps)) in
    absurd (not_own (first_job c.args.peer c.args.core.now) job.Reset (sym first ∙ ap (λ (j : Job). Some j) c.in-Reset.is) refl own)

pub returns-in-Copy-clause-read : goal.returns-in-Copy-clause-read
returns-in-Copy-clause-read g c = λ told own list waiting has stored.
    let first : Some c.in-Some.job.now ≡ first_job c.args.peer c.args.core.now = first_of (search rules, grind (arith, common_steps)) in
    absurd (not_own (first_job c.args.peer c.args.core.now) (job.Copy c.in-Copy.from c.in-Copy.number) (sym first ∙ ap (λ (j : Job). Some j) c.in-Copy.is) refl own)

pub returns-in-Append-clause-read : goal.returns-in-Append-clause-read
returns-in-Append-clause-read g c = λ told own list waiting has stored.
    let f : g.row.D.Denot → DiskSeen = λ disk. seen_as (g.D.Disk.size disk) (g.D.Disk.stands disk) (g.D.Disk.faults disk) in
    let item : c.index_mut-in-Append.result.now ≡ log_at c.args.logs.now.items c.from-place.result = grind (arith, common_steps) in
    let low : c.from-place.result < length c.args.disks.now = grind (arith, common_steps) in
    let place : c.from-place.result ≡ c.args.peer = grind (arith, common_steps) in
    let first : Some c.in-Some.job.now ≡ first_job c.args.peer c.args.core.now = first_of (search rules, grind (arith, common_steps)) in
    let shard : c.home_of.result ≡ home c.args.peer c.args.core.now = c.home_of.ensures.home ∙ ap (λ (s : Shape). home_of s c.args.peer) c.shape.ensures.value in
    all_paid_result c.args.core.now c.args.peer c.do_usual.result (map f c.args.disks.now) (map f (slice_set c.args.disks.now c.from-place.result c.do_usual.new.disk))
    (paid_at f c.args.disks.now c.args.peer c.from-place.result c.index-disks-place-in-Append.result c.do_usual.new.disk c.do_usual.result place low
    (c.do_usual.ensures.read told list waiting
    (log_read f c.args.logs.now.items c.args.disks.now c.args.peer c.from-place.result c.index_mut-in-Append.result.now c.index-disks-place-in-Append.result list waiting place low item has)
    (stored_as (first_job c.args.peer c.args.core.now) (Some c.in-Some.job.now) (catalogue_of (home c.args.peer c.args.core.now) c.args.core.now) c.catalogue-catalogue.result.now list first
    (c.catalogue-catalogue.ensures ∙ ap (λ k. catalogue_of k c.args.core.now) shard) stored)))

-- of an emptying

pub returns-in_default-clause-emptied : goal.returns-in_default-clause-emptied
returns-in_default-clause-emptied g c = λ is. tt

pub returns-in-Reset-clause-emptied : goal.returns-in-Reset-clause-emptied
returns-in-Reset-clause-emptied g c = λ is.
    let f : g.row.D.Denot → DiskSeen = λ disk. seen_as (g.D.Disk.size disk) (g.D.Disk.stands disk) (g.D.Disk.faults disk) in
    let low : c.from-place.result < length c.args.disks.now = grind (arith, common_steps) in
    let place : c.from-place.result ≡ c.args.peer = grind (arith, common_steps) in
    all_paid_result c.args.core.now c.args.peer c.do_reset.result (map f c.args.disks.now) (map f (slice_set c.args.disks.now c.from-place.result c.do_reset.new.disk))
    (paid_at f c.args.disks.now c.args.peer c.from-place.result c.index-disks-place.result c.do_reset.new.disk c.do_reset.result place low c.do_reset.ensures.paid)

pub returns-in-Copy-clause-emptied : goal.returns-in-Copy-clause-emptied
returns-in-Copy-clause-emptied g c = λ is.
    let first : Some c.in-Some.job.now ≡ first_job c.args.peer c.args.core.now = first_of (search rules, grind (arith, common_steps)) in
    absurd (copy_not_reset (first_job c.args.peer c.args.core.now) c.in-Copy.from c.in-Copy.number (sym first ∙ ap (λ (j : Job). Some j) c.in-Copy.is) is)

pub returns-in-Append-clause-emptied : goal.returns-in-Append-clause-emptied
returns-in-Append-clause-emptied g c = λ is.
    let first : Some c.in-Some.job.now ≡ first_job c.args.peer c.args.core.now = first_of (search rules, grind (arith, common_steps)) in
    absurd (usual_not (first_job c.args.peer c.args.core.now) c.in-Some.job.now job.Reset (sym first) (usual_own c.in-Some.job.now c.in-Append.is) is refl)

-- of a copying step

pub returns-in_default-clause-copied : goal.returns-in_default-clause-copied
returns-in_default-clause-copied g c = λ told from number is list waiting entry has found. tt

pub returns-in-Reset-clause-copied : goal.returns-in-Reset-clause-copied
returns-in-Reset-clause-copied g c = λ told from number is list waiting entry has found.
    let first : Some c.in-Some.job.now ≡ first_job c.args.peer c.args.core.now = first_of (search rules, grind (arith, common_steps)) in
    absurd (copy_not_reset (first_job c.args.peer c.args.core.now) from number is (sym first ∙ ap (λ (j : Job). Some j) c.in-Reset.is))

pub returns-in-Copy-clause-copied : goal.returns-in-Copy-clause-copied
returns-in-Copy-clause-copied g c = λ told from number is list waiting entry has found.
    let f : g.row.D.Denot → DiskSeen = λ disk. seen_as (g.D.Disk.size disk) (g.D.Disk.stands disk) (g.D.Disk.faults disk) in
    let first : Some c.in-Some.job.now ≡ first_job c.args.peer c.args.core.now = first_of (search rules, grind (arith, common_steps)) in
    let same = copy_same (first_job c.args.peer c.args.core.now) from number c.in-Copy.from c.in-Copy.number is (sym first ∙ ap (λ (j : Job). Some j) c.in-Copy.is) in
    told_paid_result c.args.core.now c.args.peer c.do_copy.result (map f c.args.disks.now) (map f c.do_copy.new.disks)
    (c.do_copy.ensures.read told list waiting entry
    (subst (λ k. (keeping : Keeping) → log_at c.args.logs.now.items k ≡ Some keeping → IsKept keeping ((disk_at (stands_of (map f c.args.disks.now)) k).seen keeping.log.side) list waiting) same.0 has)
    (ap (λ n. numbered_entry list n) (sym same.1) ∙ found))

pub returns-in-Append-clause-copied : goal.returns-in-Append-clause-copied
returns-in-Append-clause-copied g c = λ told from number is list waiting entry has found.
    let first : Some c.in-Some.job.now ≡ first_job c.args.peer c.args.core.now = first_of (search rules, grind (arith, common_steps)) in
    absurd (usual_not (first_job c.args.peer c.args.core.now) c.in-Some.job.now (job.Copy from number) (sym first) (usual_own c.in-Some.job.now c.in-Append.is) is refl)

pub returns-in_default-clause-reads : goal.returns-in_default-clause-reads
returns-in_default-clause-reads g c = λ told own list waiting has j at. tt

pub returns-in_default-clause-had : goal.returns-in_default-clause-had
returns-in_default-clause-had g c = λ own. tt

pub returns-in-Reset-clause-reads : goal.returns-in-Reset-clause-reads
returns-in-Reset-clause-reads g c = λ told own list waiting has j at.
    let first : Some c.in-Some.job.now ≡ first_job c.args.peer c.args.core.now = first_of (search rules, grind (arith, common_steps)) in
    absurd (not_own (first_job c.args.peer c.args.core.now) job.Reset (sym first ∙ ap (λ (j : Job). Some j) c.in-Reset.is) refl own)

pub returns-in-Reset-clause-had : goal.returns-in-Reset-clause-had
returns-in-Reset-clause-had g c = λ own.
    let first : Some c.in-Some.job.now ≡ first_job c.args.peer c.args.core.now = first_of (search rules, grind (arith, common_steps)) in
    absurd (not_own (first_job c.args.peer c.args.core.now) job.Reset (sym first ∙ ap (λ (j : Job). Some j) c.in-Reset.is) refl own)

pub returns-in-Copy-clause-reads : goal.returns-in-Copy-clause-reads
returns-in-Copy-clause-reads g c = λ told own list waiting has j at.
    let first : Some c.in-Some.job.now ≡ first_job c.args.peer c.args.core.now = first_of (search rules, grind (arith, common_steps)) in
    absurd (not_own (first_job c.args.peer c.args.core.now) (job.Copy c.in-Copy.from c.in-Copy.number) (sym first ∙ ap (λ (j : Job). Some j) c.in-Copy.is) refl own)

pub returns-in-Copy-clause-had : goal.returns-in-Copy-clause-had
returns-in-Copy-clause-had g c = λ own.
    let first : Some c.in-Some.job.now ≡ first_job c.args.peer c.args.core.now = first_of (search rules, grind (arith, common_steps)) in
    absurd (not_own (first_job c.args.peer c.args.core.now) (job.Copy c.in-Copy.from c.in-Copy.number) (sym first ∙ ap (λ (j : Job). Some j) c.in-Copy.is) refl own)

pub returns-in-Append-clause-reads : goal.returns-in-Append-clause-reads
returns-in-Append-clause-reads g c = λ told own list waiting has j at.
    let f : g.row.D.Denot → DiskSeen = λ disk. seen_as (g.D.Disk.size disk) (g.D.Disk.stands disk) (g.D.Disk.faults disk) in
    let item : c.index_mut-in-Append.result.now ≡ log_at c.args.logs.now.items c.from-place.result = grind (arith, common_steps) in
    let low : c.from-place.result < length c.args.disks.now = grind (arith, common_steps) in
    let low_logs : c.from-place.result < length c.args.logs.now.items = grind (arith, common_steps) in
    let place : c.from-place.result ≡ c.args.peer = grind (arith, common_steps) in
    let first : Some c.in-Some.job.now ≡ first_job c.args.peer c.args.core.now = first_of (search rules, grind (arith, common_steps)) in
    reads_at f c.args.logs.now.items c.args.disks.now c.args.peer c.from-place.result c.do_usual.new.slot c.do_usual.new.disk c.in-Some.job.now j list waiting c.do_usual.result place low_logs low (first ∙ at)
    (c.do_usual.ensures.reads told (ap is_own first ∙ own) list waiting
    (log_read f c.args.logs.now.items c.args.disks.now c.args.peer c.from-place.result c.index_mut-in-Append.result.now c.index-disks-place-in-Append.result list waiting place low item has))

pub returns-in-Append-clause-had : goal.returns-in-Append-clause-had
returns-in-Append-clause-had g c = λ own.
    let item : c.index_mut-in-Append.result.now ≡ log_at c.args.logs.now.items c.from-place.result = grind (arith, common_steps) in
    let place : c.from-place.result ≡ c.args.peer = grind (arith, common_steps) in
    subst (λ o. IfOk c.do_usual.result (λ done. IsSome o)) (item ∙ ap (λ p. log_at c.args.logs.now.items p) place) c.do_usual.ensures.had

-- ---- every other disk

pub returns-in_default-clause-beside : goal.returns-in_default-clause-beside
returns-in_default-clause-beside g c =
    let f : g.row.D.Denot → DiskSeen = λ disk. seen_as (g.D.Disk.size disk) (g.D.Disk.stands disk) (g.D.Disk.faults disk) in
    beside_same g.D.Disk.tells c.args.peer (first_job c.args.peer c.args.core.now) (map f c.args.disks.now)

pub returns-in-Reset-clause-beside : goal.returns-in-Reset-clause-beside
returns-in-Reset-clause-beside g c =
    let f : g.row.D.Denot → DiskSeen = λ disk. seen_as (g.D.Disk.size disk) (g.D.Disk.stands disk) (g.D.Disk.faults disk) in
    let place : c.from-place.result ≡ c.args.peer = grind (arith, common_steps) in
    beside_one g.D.Disk.tells f c.args.disks.now c.args.peer c.from-place.result c.do_reset.new.disk (first_job c.args.peer c.args.core.now) place

pub returns-in-Copy-clause-beside : goal.returns-in-Copy-clause-beside
returns-in-Copy-clause-beside g c =
    let f : g.row.D.Denot → DiskSeen = λ disk. seen_as (g.D.Disk.size disk) (g.D.Disk.stands disk) (g.D.Disk.faults disk) in
    let first : Some c.in-Some.job.now ≡ first_job c.args.peer c.args.core.now = first_of (search rules, grind (arith, common_steps)) in
    subst (λ o. StandsBeside g.D.Disk.tells c.args.peer o (map f c.args.disks.now) (map f c.do_copy.new.disks)) (sym (ap (λ (j : Job). Some j) c.in-Copy.is) ∙ first) c.do_copy.ensures.beside

pub returns-in-Append-clause-beside : goal.returns-in-Append-clause-beside
returns-in-Append-clause-beside g c =
    let f : g.row.D.Denot → DiskSeen = λ disk. seen_as (g.D.Disk.size disk) (g.D.Disk.stands disk) (g.D.Disk.faults disk) in
    let place : c.from-place.result ≡ c.args.peer = grind (arith, common_steps) in
    beside_one g.D.Disk.tells f c.args.disks.now c.args.peer c.from-place.result c.do_usual.new.disk (first_job c.args.peer c.args.core.now) place

-- ---- the lists go on

pub returns-in_default-clause-goes_on : goal.returns-in_default-clause-goes_on
returns-in_default-clause-goes_on g c = λ told p apart.
    let f : g.row.D.Denot → DiskSeen = λ disk. seen_as (g.D.Disk.size disk) (g.D.Disk.stands disk) (g.D.Disk.faults disk) in
    goes_same c.args.logs.now.items (map f c.args.disks.now) p

pub returns-in-Reset-clause-goes_on : goal.returns-in-Reset-clause-goes_on
returns-in-Reset-clause-goes_on g c = λ told p apart.
    let f : g.row.D.Denot → DiskSeen = λ disk. seen_as (g.D.Disk.size disk) (g.D.Disk.stands disk) (g.D.Disk.faults disk) in
    let item : c.index_mut.result.now ≡ log_at c.args.logs.now.items c.from-place.result = grind (arith, common_steps) in
    let low : c.from-place.result < length c.args.disks.now = grind (arith, common_steps) in
    let low_logs : c.from-place.result < length c.args.logs.now.items = grind (arith, common_steps) in
    let place : c.from-place.result ≡ c.args.peer = grind (arith, common_steps) in
    goes_at c.args.logs.now.items c.args.disks.now f c.from-place.result c.index_mut.result.now c.do_reset.new.slot c.index-disks-place.result c.do_reset.new.disk p item low_logs low
    (λ e. c.do_reset.ensures.goes_on told (subst (λ k. is_joining (status_of k c.args.core.now) ≡ false) (sym e ∙ place) apart))

pub returns-in-Copy-clause-goes_on : goal.returns-in-Copy-clause-goes_on
returns-in-Copy-clause-goes_on g c = λ told p apart. c.do_copy.ensures.goes_on told p

pub returns-in-Append-clause-goes_on : goal.returns-in-Append-clause-goes_on
returns-in-Append-clause-goes_on g c = λ told p apart.
    let f : g.row.D.Denot → DiskSeen = λ disk. seen_as (g.D.Disk.size disk) (g.D.Disk.stands disk) (g.D.Disk.faults disk) in
    let item : c.index_mut-in-Append.result.now ≡ log_at c.args.logs.now.items c.from-place.result = grind (arith, common_steps) in
    let low : c.from-place.result < length c.args.disks.now = grind (arith, common_steps) in
    let low_logs : c.from-place.result < length c.args.logs.now.items = grind (arith, common_steps) in
    goes_at c.args.logs.now.items c.args.disks.now f c.from-place.result c.index_mut-in-Append.result.now c.do_usual.new.slot c.index-disks-place-in-Append.result c.do_usual.new.disk p item low_logs low (λ e. c.do_usual.ensures.goes_on told)

-- ---- whose header a stop leaves

pub returns-in_default-clause-headed : goal.returns-in_default-clause-headed
returns-in_default-clause-headed g c = λ told p headed.
    let f : g.row.D.Denot → DiskSeen = λ disk. seen_as (g.D.Disk.size disk) (g.D.Disk.stands disk) (g.D.Disk.faults disk) in
    heads_stay (own_header c.args.core.now.members.shape p) c.args.watch.now c.args.logs.now.items c.args.logs.now.items (map f c.args.disks.now) p (since_of f c.args.disks.now (g.met.D.Disk.since told) p) (λ keeping at. at) headed

pub returns-in-Reset-clause-headed : goal.returns-in-Reset-clause-headed
returns-in-Reset-clause-headed g c = λ told p headed.
    let f : g.row.D.Denot → DiskSeen = λ disk. seen_as (g.D.Disk.size disk) (g.D.Disk.stands disk) (g.D.Disk.faults disk) in
    let item : c.index_mut.result.now ≡ log_at c.args.logs.now.items c.from-place.result = grind (arith, common_steps) in
    let low : c.from-place.result < length c.args.disks.now = grind (arith, common_steps) in
    let low_logs : c.from-place.result < length c.args.logs.now.items = grind (arith, common_steps) in
    let place : c.from-place.result ≡ c.args.peer = grind (arith, common_steps) in
    heads_at (own_header c.args.core.now.members.shape p) c.args.watch.now c.do_reset.new.watch c.args.logs.now.items c.args.disks.now f c.from-place.result c.index_mut.result.now c.do_reset.new.slot c.index-disks-place.result c.do_reset.new.disk p c.do_reset.ensures.ticks (since_of f c.args.disks.now (g.met.D.Disk.since told) p) item low_logs low
    (λ e one. subst (λ k. IsHeaded (own_header c.args.core.now.members.shape k) c.args.watch.now c.index_mut.result.now (g.D.Disk.stands (slice_index_or c.args.disks.now c.from-place.result c.index-disks-place.result))
    → StaysHeaded (own_header c.args.core.now.members.shape k) c.args.watch.now c.do_reset.new.watch (g.D.Disk.stands (slice_index_or c.args.disks.now c.from-place.result c.index-disks-place.result)) (g.D.Disk.stands c.do_reset.new.disk) c.do_reset.new.slot) (sym place ∙ e)
    (c.do_reset.ensures.headed told) one) headed

pub returns-in-Copy-clause-headed : goal.returns-in-Copy-clause-headed
returns-in-Copy-clause-headed g c = λ told p headed. c.do_copy.ensures.headed told p (own_header c.args.core.now.members.shape p) headed

pub returns-in-Append-clause-headed : goal.returns-in-Append-clause-headed
returns-in-Append-clause-headed g c = λ told p headed.
    let f : g.row.D.Denot → DiskSeen = λ disk. seen_as (g.D.Disk.size disk) (g.D.Disk.stands disk) (g.D.Disk.faults disk) in
    let item : c.index_mut-in-Append.result.now ≡ log_at c.args.logs.now.items c.from-place.result = grind (arith, common_steps) in
    let low : c.from-place.result < length c.args.disks.now = grind (arith, common_steps) in
    let low_logs : c.from-place.result < length c.args.logs.now.items = grind (arith, common_steps) in
    heads_at (own_header c.args.core.now.members.shape p) c.args.watch.now c.do_usual.new.watch c.args.logs.now.items c.args.disks.now f c.from-place.result c.index_mut-in-Append.result.now c.do_usual.new.slot c.index-disks-place-in-Append.result c.do_usual.new.disk p c.do_usual.ensures.ticks (since_of f c.args.disks.now (g.met.D.Disk.since told) p) item low_logs low
    (λ e one. c.do_usual.ensures.headed told (own_header c.args.core.now.members.shape p) one) headed
