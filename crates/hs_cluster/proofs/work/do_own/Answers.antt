use Rattle.std.proofs.Common.{ap, refl, subst, Some, true}
use Rattle.std.proofs.lemmas.Result.{err_from_is_err_and}
use Rattle.hs_cluster.proofs.CountLemmas.{read_only}
use Rattle.hs_cluster.proofs.DiskLemmas.{not_own}
use Rattle.hs_cluster.proofs.HeadLemmas.{headed_err, headed_read}
use Rattle.hs_cluster.proofs.JobLemmas.{first_of_two, leaves_err, leaves_ok, leaves_read, reads_ok, reads_read, stays_one}
use Rattle.hs_cluster.specs.Jobs.{HasStored, list_after}
use Rattle.hs_desk.specs.declared.job.Job.{Job}
use Rattle.hs_desk.specs.declared.done.Done.TheVariants as done
use Rattle.hs_desk.specs.declared.job.Job.TheVariants as job
use Rattle.hs_peerlog.specs.declared.fault.LogFault.TheVariants.{NoMemory}
use Rattle.hs_cluster.proofs.work.do_own.Goals as goal

pub returns-in_err-append_entry-in-Append-clause-leaves : goal.returns-in_err-append_entry-in-Append-clause-leaves
returns-in_err-append_entry-in-Append-clause-leaves g c = λ told last list waiting has.
    let p = err_from_is_err_and c.from_residual.result c.from_residual.ensures.1 in
    leaves_err _ c.args.job.now list waiting c.from_residual.result p.0 p.1
    (first_of_two c.args.watch.now c.append_entry.new.watch (g.D.Disk.stands c.args.disk.now) (g.D.Disk.stands c.append_entry.new.disk) list (list_after c.args.job.now list waiting) (c.append_entry.ensures.any_moment told last list waiting has))

pub returns-in_ok-append_entry-in-Append-clause-leaves : goal.returns-in_ok-append_entry-in-Append-clause-leaves
returns-in_ok-append_entry-in-Append-clause-leaves g c = λ told last list waiting has.
    leaves_ok _ c.args.job.now _ list waiting (done.Stored c.in-Append.number) c.append_entry.new.log c.in-Append.is refl refl
    (first_of_two c.args.watch.now c.append_entry.new.watch (g.D.Disk.stands c.args.disk.now) (g.D.Disk.stands c.append_entry.new.disk) list (list_after c.args.job.now list waiting) (c.append_entry.ensures.any_moment told last list waiting has))
    (c.in_ok-append_entry-in-Append.ensures.list told last list waiting has)

pub returns-in-Read-clause-leaves : goal.returns-in-Read-clause-leaves
returns-in-Read-clause-leaves g c = λ told last list waiting has.
    leaves_read c.args.watch.now c.in-Read.number c.args.log.now (g.D.Disk.stands c.args.disk.now) (g.D.Disk.stands c.read_block.new.disk) c.args.job.now list waiting c.read_block.result c.in-Read.is (c.read_block.ensures.same told) last
    (g.met.D.Disk.since told c.args.disk.now) has c.read_block.ensures.done

pub returns-in-Copy-clause-leaves : goal.returns-in-Copy-clause-leaves
returns-in-Copy-clause-leaves g c = λ told last list waiting has.
    leaves_err _ c.args.job.now list waiting _ NoMemory refl
    (stays_one (g.D.Disk.stands c.args.disk.now) c.args.watch.now list (list_after c.args.job.now list waiting) last (g.met.D.Disk.since told c.args.disk.now) has.leaves)

pub returns-in-Reclaim-clause-leaves : goal.returns-in-Reclaim-clause-leaves
returns-in-Reclaim-clause-leaves g c = λ told last list waiting has.
    leaves_ok _ c.args.job.now job.Reclaim list waiting (done.Stepped true) c.args.log.now c.in-Reclaim.is refl refl
    (stays_one (g.D.Disk.stands c.args.disk.now) c.args.watch.now list (list_after c.args.job.now list waiting) last (g.met.D.Disk.since told c.args.disk.now) has.leaves) has

pub returns-in-Read-clause-refused : goal.returns-in-Read-clause-refused
returns-in-Read-clause-refused g c = λ at only. absurd (read_only at c.in-Read.number c.args.job.now c.in-Read.is only)

pub returns-in-Read-clause-failed : goal.returns-in-Read-clause-failed
returns-in-Read-clause-failed g c = λ told list waiting has stored.
    c.read_block.ensures.refused told list waiting has (subst (λ (j : Job). HasStored (Some j) c.args.catalogue.now.blocks list) c.in-Read.is stored)

pub returns-in_ok-append_entry-in-Append-clause-reads : goal.returns-in_ok-append_entry-in-Append-clause-reads
returns-in_ok-append_entry-in-Append-clause-reads g c = λ told own list waiting kept.
    reads_ok (Some c.append_entry.new.log) c.append_entry.new.log (g.D.Disk.stands c.append_entry.new.disk) c.args.job.now _ list waiting (done.Stored c.in-Append.number) c.in-Append.is refl refl
    (c.in_ok-append_entry-in-Append.ensures.reads told list waiting kept) tt

pub returns-in_ok-seal_entry-in-Seal-clause-reads : goal.returns-in_ok-seal_entry-in-Seal-clause-reads
returns-in_ok-seal_entry-in-Seal-clause-reads g c = λ told own list waiting kept.
    reads_ok (Some c.seal_entry.new.log) c.seal_entry.new.log (g.D.Disk.stands c.seal_entry.new.disk) c.args.job.now _ list waiting (done.Sealed c.in-Seal.number) c.in-Seal.is refl refl
    (c.in_ok-seal_entry-in-Seal.ensures.reads told list waiting kept) tt

pub returns-in-Read-clause-reads : goal.returns-in-Read-clause-reads
returns-in-Read-clause-reads g c = λ told own list waiting kept.
    reads_read c.in-Read.number c.args.log.now (g.D.Disk.stands c.args.disk.now) (g.D.Disk.stands c.read_block.new.disk) c.args.job.now list waiting c.read_block.result c.in-Read.is (c.read_block.ensures.same told) kept
    c.read_block.ensures.done (c.read_block.ensures.told told list waiting kept)

pub returns-in-Reclaim-clause-reads : goal.returns-in-Reclaim-clause-reads
returns-in-Reclaim-clause-reads g c = λ told own list waiting kept.
    reads_ok (Some c.args.log.now) c.args.log.now (g.D.Disk.stands c.args.disk.now) c.args.job.now job.Reclaim list waiting (done.Stepped true) c.in-Reclaim.is refl refl kept tt

pub returns-in_err-append_entry-in-Append-clause-headed : goal.returns-in_err-append_entry-in-Append-clause-headed
returns-in_err-append_entry-in-Append-clause-headed g c = λ told own header headed.
    let p = err_from_is_err_and c.from_residual.result c.from_residual.ensures.1 in
    headed_err header c.args.watch.now c.append_entry.new.watch (g.D.Disk.stands c.args.disk.now) (g.D.Disk.stands c.append_entry.new.disk) c.append_entry.new.log _ p.0 p.1 (c.append_entry.ensures.headed told header headed).disk

pub returns-in_ok-append_entry-in-Append-clause-headed : goal.returns-in_ok-append_entry-in-Append-clause-headed
returns-in_ok-append_entry-in-Append-clause-headed g c = λ told own header headed.
    let one = c.in_ok-append_entry-in-Append.ensures.headed told header headed in
    record { disk = one.disk; log = one.log }

pub returns-in_err-seal_entry-in-Seal-clause-headed : goal.returns-in_err-seal_entry-in-Seal-clause-headed
returns-in_err-seal_entry-in-Seal-clause-headed g c = λ told own header headed.
    let p = err_from_is_err_and c.from_residual-in_err-seal_entry-in-Seal.result c.from_residual-in_err-seal_entry-in-Seal.ensures.1 in
    headed_err header c.args.watch.now c.seal_entry.new.watch (g.D.Disk.stands c.args.disk.now) (g.D.Disk.stands c.seal_entry.new.disk) c.seal_entry.new.log _ p.0 p.1 (c.seal_entry.ensures.headed told header headed).disk

pub returns-in_ok-seal_entry-in-Seal-clause-headed : goal.returns-in_ok-seal_entry-in-Seal-clause-headed
returns-in_ok-seal_entry-in-Seal-clause-headed g c = λ told own header headed.
    let one = c.in_ok-seal_entry-in-Seal.ensures.headed told header headed in
    record { disk = one.disk; log = one.log }

pub returns-in-Read-clause-headed : goal.returns-in-Read-clause-headed
returns-in-Read-clause-headed g c = λ told own header headed.
    headed_read header c.args.watch.now (g.D.Disk.stands c.args.disk.now) (g.D.Disk.stands c.read_block.new.disk) c.args.log.now c.read_block.result (c.read_block.ensures.same told) (g.met.D.Disk.since told c.args.disk.now) headed

pub returns-in-Copy-clause-headed : goal.returns-in-Copy-clause-headed
returns-in-Copy-clause-headed g c = λ told own header headed.
    headed_read header c.args.watch.now (g.D.Disk.stands c.args.disk.now) (g.D.Disk.stands c.args.disk.now) c.args.log.now _ refl (g.met.D.Disk.since told c.args.disk.now) headed

pub returns-in-Reclaim-clause-headed : goal.returns-in-Reclaim-clause-headed
returns-in-Reclaim-clause-headed g c = λ told own header headed.
    headed_read header c.args.watch.now (g.D.Disk.stands c.args.disk.now) (g.D.Disk.stands c.args.disk.now) c.args.log.now _ refl (g.met.D.Disk.since told c.args.disk.now) headed

pub returns-in_err-reset-in-Reset-clause-headed : goal.returns-in_err-reset-in-Reset-clause-headed
returns-in_err-reset-in-Reset-clause-headed g c = λ told own header headed.
    absurd (not_own (Some c.args.job.now) job.Reset (ap (λ (j : Job). Some j) c.in-Reset.is) refl own)

pub returns-in_ok-reset-in-Reset-clause-headed : goal.returns-in_ok-reset-in-Reset-clause-headed
returns-in_ok-reset-in-Reset-clause-headed g c = λ told own header headed.
    absurd (not_own (Some c.args.job.now) job.Reset (ap (λ (j : Job). Some j) c.in-Reset.is) refl own)
