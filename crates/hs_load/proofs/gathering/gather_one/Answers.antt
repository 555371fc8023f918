use Rattle.std.proofs.Common.{◌≡◌, List, Option, Some, subst}
use Rattle.std.specs.Prelude.{slice_set}
use Rattle.hs_load.specs.Seating.{AreAskers, AreBack, HasCameBack}
use Rattle.hs_load.proofs.GatherLemmas.{deleter_told, worker_back, writer_told}
use Rattle.hs_load.proofs.ListLemmas.{put_either}
use Rattle.hs_load.proofs.gathering.gather_one.Goals as goal

pub returns-in-Worker-clause-back : goal.returns-in-Worker-clause-back
returns-in-Worker-clause-back g c = λ slots disks now task came all.
    put_either (λ xs. AreBack g.D.Disk.tells g.D.Disk.size g.D.Disk.stands g.D.Disk.faults slots disks xs) c.put_at.result c.put_at.new.places.items
    (slice_set c.args.back.now.items c.gather_worker-peer.result.0 (Some c.gather_worker-peer.result.1)) c.args.back.now.items c.put_at.ensures.ok c.put_at.ensures.same
    (worker_back g.D.Disk.tells g.D.Disk.size g.D.Disk.stands g.D.Disk.faults slots disks now task c.in-Worker.worker c.gather_worker-peer.result.1 c.gather_worker-peer.result.0 c.args.back.now.items
    (subst (λ e. HasCameBack g.D.Disk.tells g.D.Disk.size g.D.Disk.stands g.D.Disk.faults slots disks now task e) c.in-Worker.is came)
    c.gather_worker-peer.ensures.peer c.gather_worker-peer.ensures.disk c.gather_worker-peer.ensures.log c.gather_worker-peer.ensures.stored c.gather_worker-peer.ensures.stop all) all

pub returns-in-Writer-clause-told : goal.returns-in-Writer-clause-told
returns-in-Writer-clause-told g c = λ slots disks now task count came all.
    put_either (λ xs. AreAskers task xs) c.put_at-in-Writer.result c.put_at-in-Writer.new.places.items
    (slice_set c.args.told.now.items c.in-Writer.writer.number (Some c.gather_writer.result)) c.args.told.now.items c.put_at-in-Writer.ensures.ok c.put_at-in-Writer.ensures.same
    (writer_told g.D.Disk.tells g.D.Disk.size g.D.Disk.stands g.D.Disk.faults slots disks now task c.in-Writer.writer c.gather_writer.result c.args.told.now.items
    (subst (λ e. HasCameBack g.D.Disk.tells g.D.Disk.size g.D.Disk.stands g.D.Disk.faults slots disks now task e) c.in-Writer.is came)
    c.gather_writer.ensures.kept c.gather_writer.ensures.end all) all

pub returns-in-Deleter-clause-told : goal.returns-in-Deleter-clause-told
returns-in-Deleter-clause-told g c = λ slots disks now task count came all.
    put_either (λ xs. AreAskers task xs) c.put_at-in-Deleter.result c.put_at-in-Deleter.new.places.items
    (slice_set c.args.told.now.items c.args.writers (Some c.gather_deleter.result)) c.args.told.now.items c.put_at-in-Deleter.ensures.ok c.put_at-in-Deleter.ensures.same
    (deleter_told g.D.Disk.tells g.D.Disk.size g.D.Disk.stands g.D.Disk.faults slots disks now task c.in-Deleter.deleter c.gather_deleter.result c.args.told.now.items c.args.writers count
    (subst (λ e. HasCameBack g.D.Disk.tells g.D.Disk.size g.D.Disk.stands g.D.Disk.faults slots disks now task e) c.in-Deleter.is came)
    c.gather_deleter.ensures.kept c.gather_deleter.ensures.end all) all
