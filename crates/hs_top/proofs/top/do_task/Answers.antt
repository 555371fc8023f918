use Rattle.std.proofs.Common.{sym, subst, ℕ, List, Option, map}
use Rattle.hs_checks.specs.Audited.{EndsAudit, IsAudited}
use Rattle.hs_kept.specs.Copied.{CopiesAndKeeps}
use Rattle.hs_kept.specs.Kept.{FetchesAndGives}
use Rattle.hs_kept.specs.Stopped.{StoresAndKeeps}
use Rattle.hs_limits.specs.Limits.{greatest_limits}
use Rattle.hs_ports.specs.Objects.{Objects, handed}
use Rattle.hs_promise.specs.Run.{Ran, ran_of}
use Rattle.hs_promise.specs.declared.status.Status.{Status}
use Rattle.hs_script.specs.declared.invocation.Task.{Task}
use Rattle.hs_top.proofs.CalledLemmas.{of_vector}
use Rattle.hs_top.specs.Calls.{Does}
use Rattle.hs_top.proofs.top.do_task.Goals as goal

pub returns-in-Script-clause-does : goal.returns-in-Script-clause-does
returns-in-Script-clause-does g c =
    let before : List g.row.D.Denot → Objects = λ disks. handed c.args.watch.now (map (λ disk. (g.D.Disk.stands disk, g.D.Disk.faults disk)) disks) (g.K.Sink.got c.args.sink.now, g.K.Sink.faults c.args.sink.now) (g.S.Source.left c.args.source.now, g.S.Source.faults c.args.source.now) in
    let behind : List g.row.D.Denot → Objects = λ disks. handed c.run_script.new.watch (map (λ disk. (g.D.Disk.stands disk, g.D.Disk.faults disk)) disks) (g.K.Sink.got c.run_script.new.sink, g.K.Sink.faults c.run_script.new.sink) (g.S.Source.left c.run_script.new.source, g.S.Source.faults c.run_script.new.source) in
    of_vector (λ (old : List g.row.D.Denot) (new : List g.row.D.Denot). Does g.D.Disk.tells (g.A.Addresser.name c.args.naming.now) c.args.shape c.args.task.now (ran_of c.run_script.result (before old) (behind new)))
    c.args.disks.now.len c.as_mut_slice-handed.result.now c.args.disks.now.items c.run_script.new.disks c.as_mut_slice-handed.ensures.value c.run_script.auto.disks c.as_mut_slice-handed.ensures.len
    (subst (λ (t : Task). Does g.D.Disk.tells (g.A.Addresser.name c.args.naming.now) c.args.shape t (ran_of c.run_script.result (before c.as_mut_slice-handed.result.now) (behind c.run_script.new.disks))) (sym c.in-Script.is) c.run_script.ensures.runs)

pub returns-in-Audit-clause-does : goal.returns-in-Audit-clause-does
returns-in-Audit-clause-does g c =
    let before : List g.row.D.Denot → Objects = λ disks. handed c.args.watch.now (map (λ disk. (g.D.Disk.stands disk, g.D.Disk.faults disk)) disks) (g.K.Sink.got c.args.sink.now, g.K.Sink.faults c.args.sink.now) (g.S.Source.left c.args.source.now, g.S.Source.faults c.args.source.now) in
    let behind : List g.row.D.Denot → Objects = λ disks. handed c.run_audit.new.watch (map (λ disk. (g.D.Disk.stands disk, g.D.Disk.faults disk)) disks) (g.K.Sink.got c.run_audit.new.sink, g.K.Sink.faults c.run_audit.new.sink) (g.S.Source.left c.args.source.now, g.S.Source.faults c.args.source.now) in
    of_vector (λ (old : List g.row.D.Denot) (new : List g.row.D.Denot). Does g.D.Disk.tells (g.A.Addresser.name c.args.naming.now) c.args.shape c.args.task.now (ran_of c.run_audit.result (before old) (behind new)))
    c.args.disks.now.len c.as_mut_slice-handed-in-Audit.result.now c.args.disks.now.items c.run_audit.new.disks c.as_mut_slice-handed-in-Audit.ensures.value c.run_audit.auto.disks c.as_mut_slice-handed-in-Audit.ensures.len
    (subst (λ (t : Task). Does g.D.Disk.tells (g.A.Addresser.name c.args.naming.now) c.args.shape t (ran_of c.run_audit.result (before c.as_mut_slice-handed-in-Audit.result.now) (behind c.run_audit.new.disks))) (sym c.in-Audit.is) (c.run_audit.ensures (g.S.Source.left c.args.source.now, g.S.Source.faults c.args.source.now)))

-- an audit never ends as a faulty command line
pub returns-in-Audit-clause-begun : goal.returns-in-Audit-clause-begun
returns-in-Audit-clause-begun g c = λ ends.
    let old : Objects = handed c.args.watch.now (map (λ disk. (g.D.Disk.stands disk, g.D.Disk.faults disk)) c.as_mut_slice-handed-in-Audit.result.now) (g.K.Sink.got c.args.sink.now, g.K.Sink.faults c.args.sink.now) (g.S.Source.left c.args.source.now, g.S.Source.faults c.args.source.now) in
    let new : Objects = handed c.run_audit.new.watch (map (λ disk. (g.D.Disk.stands disk, g.D.Disk.faults disk)) c.run_audit.new.disks) (g.K.Sink.got c.run_audit.new.sink, g.K.Sink.faults c.run_audit.new.sink) (g.S.Source.left c.args.source.now, g.S.Source.faults c.args.source.now) in
    let r : Ran = ran_of c.run_audit.result old new in
    let audited : IsAudited g.D.Disk.tells (g.A.Addresser.name c.args.naming.now) c.args.shape r = c.run_audit.ensures (g.S.Source.left c.args.source.now, g.S.Source.faults c.args.source.now) in
    subst (λ (s : Status). EndsAudit g.D.Disk.tells (record { name = g.A.Addresser.name c.args.naming.now; limits = greatest_limits; shape = c.args.shape }) audited.old audited.new r s) ends audited.ends

pub returns-in-Scrub-clause-does : goal.returns-in-Scrub-clause-does
returns-in-Scrub-clause-does g c =
    let before : List g.row.D.Denot → Objects = λ disks. handed c.args.watch.now (map (λ disk. (g.D.Disk.stands disk, g.D.Disk.faults disk)) disks) (g.K.Sink.got c.args.sink.now, g.K.Sink.faults c.args.sink.now) (g.S.Source.left c.args.source.now, g.S.Source.faults c.args.source.now) in
    let behind : List g.row.D.Denot → Objects = λ disks. handed c.run_scrub.new.watch (map (λ disk. (g.D.Disk.stands disk, g.D.Disk.faults disk)) disks) (g.K.Sink.got c.run_scrub.new.sink, g.K.Sink.faults c.run_scrub.new.sink) (g.S.Source.left c.args.source.now, g.S.Source.faults c.args.source.now) in
    of_vector (λ (old : List g.row.D.Denot) (new : List g.row.D.Denot). Does g.D.Disk.tells (g.A.Addresser.name c.args.naming.now) c.args.shape c.args.task.now (ran_of c.run_scrub.result (before old) (behind new)))
    c.args.disks.now.len c.as_mut_slice-handed-in-Scrub.result.now c.args.disks.now.items c.run_scrub.new.disks c.as_mut_slice-handed-in-Scrub.ensures.value c.run_scrub.auto.disks c.as_mut_slice-handed-in-Scrub.ensures.len
    (subst (λ (t : Task). Does g.D.Disk.tells (g.A.Addresser.name c.args.naming.now) c.args.shape t (ran_of c.run_scrub.result (before c.as_mut_slice-handed-in-Scrub.result.now) (behind c.run_scrub.new.disks))) (sym c.in-Scrub.is) (c.run_scrub.ensures.compared (g.S.Source.left c.args.source.now, g.S.Source.faults c.args.source.now)))

pub returns-in-Store-clause-does : goal.returns-in-Store-clause-does
returns-in-Store-clause-does g c =
    let old : Objects = handed c.args.watch.now (map (λ disk. (g.D.Disk.stands disk, g.D.Disk.faults disk)) c.args.disks.now.items) (g.K.Sink.got c.args.sink.now, g.K.Sink.faults c.args.sink.now) (g.S.Source.left c.args.source.now, g.S.Source.faults c.args.source.now) in
    let new : Objects = handed c.keep_file.new.watch (map (λ disk. (g.D.Disk.stands disk, g.D.Disk.faults disk)) c.keep_file.new.disks.items) (g.K.Sink.got c.args.sink.now, g.K.Sink.faults c.args.sink.now) (g.S.Source.left c.keep_file.new.source, g.S.Source.faults c.keep_file.new.source) in
    subst (λ (t : Task). Does g.D.Disk.tells (g.A.Addresser.name c.args.naming.now) c.args.shape t (ran_of c.keep_file.result old new)) (sym c.in-Store.is)
    (subst (λ (key : List ℕ). StoresAndKeeps g.D.Disk.tells (g.A.Addresser.name c.args.naming.now) c.args.shape key (ran_of c.keep_file.result old new)) c.as_slice.ensures.bytes (c.keep_file.ensures.stores (g.K.Sink.got c.args.sink.now, g.K.Sink.faults c.args.sink.now)))

pub returns-in-Fetch-clause-does : goal.returns-in-Fetch-clause-does
returns-in-Fetch-clause-does g c =
    let old : Objects = handed c.args.watch.now (map (λ disk. (g.D.Disk.stands disk, g.D.Disk.faults disk)) c.args.disks.now.items) (g.K.Sink.got c.args.sink.now, g.K.Sink.faults c.args.sink.now) (g.S.Source.left c.args.source.now, g.S.Source.faults c.args.source.now) in
    let new : Objects = handed c.give_file.new.watch (map (λ disk. (g.D.Disk.stands disk, g.D.Disk.faults disk)) c.give_file.new.disks.items) (g.K.Sink.got c.give_file.new.sink, g.K.Sink.faults c.give_file.new.sink) (g.S.Source.left c.args.source.now, g.S.Source.faults c.args.source.now) in
    subst (λ (t : Task). Does g.D.Disk.tells (g.A.Addresser.name c.args.naming.now) c.args.shape t (ran_of c.give_file.result old new)) (sym c.in-Fetch.is)
    (subst (λ (key : List ℕ). FetchesAndGives g.D.Disk.tells (g.A.Addresser.name c.args.naming.now) c.args.shape key (ran_of c.give_file.result old new)) c.as_slice-in-Fetch.ensures.bytes (c.give_file.ensures.fetches (g.S.Source.left c.args.source.now, g.S.Source.faults c.args.source.now)))

pub returns-in-Copy-clause-does : goal.returns-in-Copy-clause-does
returns-in-Copy-clause-does g c =
    let old : Objects = handed c.args.watch.now (map (λ disk. (g.D.Disk.stands disk, g.D.Disk.faults disk)) c.args.disks.now.items) (g.K.Sink.got c.args.sink.now, g.K.Sink.faults c.args.sink.now) (g.S.Source.left c.args.source.now, g.S.Source.faults c.args.source.now) in
    let new : Objects = handed c.copy_key.new.watch (map (λ disk. (g.D.Disk.stands disk, g.D.Disk.faults disk)) c.copy_key.new.disks.items) (g.K.Sink.got c.copy_key.new.sink, g.K.Sink.faults c.copy_key.new.sink) (g.S.Source.left c.args.source.now, g.S.Source.faults c.args.source.now) in
    subst (λ (t : Task). Does g.D.Disk.tells (g.A.Addresser.name c.args.naming.now) c.args.shape t (ran_of c.copy_key.result old new)) (sym c.in-Copy.is)
    (subst (λ (key : List ℕ). CopiesAndKeeps g.D.Disk.tells (g.A.Addresser.name c.args.naming.now) (record { first = c.args.shape; second = c.in-Copy.second }) key c.in-Copy.delete (ran_of c.copy_key.result old new)) c.as_slice-key.ensures.bytes (c.copy_key.ensures.copies (g.S.Source.left c.args.source.now, g.S.Source.faults c.args.source.now)))
