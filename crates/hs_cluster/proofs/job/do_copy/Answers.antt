use Rattle.std.proofs.Common.{◌≡◌, ◌∙◌, ◌<◌, Some, arith, inl, length, map, refl, slice_set, subst, sym}
use Rattle.std.specs.Prelude.{slice_index_or}
use Rattle.std.proofs.lemmas.Grind.{common_steps}
use Rattle.std.proofs.lemmas.List.{length-set}
use Rattle.hs_cluster.proofs.CountLemmas.{copied_results, failed_risen, falls_not, falls_then, paid_at, risen_at, risen_result, rises_not, stand_at, stand_failed, stand_then}
use Rattle.hs_cluster.proofs.CopyLemmas.{beside_one, beside_read, beside_same, beside_then, lead_answers, told_as, works_copied, works_read}
use Rattle.hs_cluster.proofs.DiskLemmas.{at_ok, log_read, ready_slot, since_of, slot_at}
use Rattle.hs_cluster.proofs.GrowingLemmas.{goes_at, goes_same, goes_then, slot_gone, slot_same}
use Rattle.hs_cluster.proofs.HeadLemmas.{headed_still, heads_at, heads_on, heads_stay, none_there}
use Rattle.hs_cluster.specs.Headed.{StaysHeaded}
use Rattle.hs_cluster.specs.Jobs.{HasCopied, TellsBytes}
use Rattle.hs_desk.specs.declared.done.Done.TheVariants as done
use Rattle.hs_desk.specs.declared.job.Job.TheVariants as job
use Rattle.hs_cluster.specs.Disks.{AreReady, DiskSeen, log_at, seen_as, seen_at}
use Rattle.hs_cluster.proofs.job.do_copy.Goals as goal

pub read_copy-requires : goal.read_copy-requires
read_copy-requires g c =
    let f : g.row.D.Denot → DiskSeen = λ disk. seen_as (g.D.Disk.size disk) (g.D.Disk.stands disk) (g.D.Disk.faults disk) in
    let item : c.index_mut.result.now ≡ log_at c.args.logs.now.items c.from-source.result = grind (arith, common_steps) in
    let low : c.from-source.result < length c.args.disks.now = grind (arith, common_steps) in
    record { ready = slot_at g.D.Disk.tells c.args.logs.now.items c.args.disks.now f c.from-source.result c.index_mut.result.now c.index-disks-source.result c.requires.ready item low }

pub write_copy-requires : goal.write_copy-requires
write_copy-requires g c =
    let f : g.row.D.Denot → DiskSeen = λ disk. seen_as (g.D.Disk.size disk) (g.D.Disk.stands disk) (g.D.Disk.faults disk) in
    let logs = slice_set c.args.logs.now.items c.from-source.result c.read_copy.new.slot in
    let disks = slice_set c.args.disks.now c.from-source.result c.read_copy.new.disk in
    let in_logs : c.from-source.result < length c.args.logs.now.items = grind (arith, common_steps) in
    let in_disks : c.from-source.result < length c.args.disks.now = grind (arith, common_steps) in
    let ready : AreReady g.D.Disk.tells logs (map f disks) = ready_slot g.D.Disk.tells c.args.logs.now.items c.args.disks.now f c.from-source.result c.read_copy.new.slot c.read_copy.new.disk c.requires.ready in_logs in_disks c.read_copy.ensures.ready in
    let item : c.index_mut-in-Ok.result.now ≡ log_at logs c.from-place.result = grind (arith, common_steps) in
    let low : c.from-place.result < length disks = grind (arith, common_steps, length-set c.args.disks.now c.from-source.result c.read_copy.new.disk) in
    record { ready = slot_at g.D.Disk.tells logs disks f c.from-place.result c.index_mut-in-Ok.result.now c.index-disks-place.result ready item low }

pub returns-in-Ok-clause-ready : goal.returns-in-Ok-clause-ready
returns-in-Ok-clause-ready g c =
    let f : g.row.D.Denot → DiskSeen = λ disk. seen_as (g.D.Disk.size disk) (g.D.Disk.stands disk) (g.D.Disk.faults disk) in
    let logs = slice_set c.args.logs.now.items c.from-source.result c.read_copy.new.slot in
    let disks = slice_set c.args.disks.now c.from-source.result c.read_copy.new.disk in
    let in_logs : c.from-source.result < length c.args.logs.now.items = grind (arith, common_steps) in
    let in_disks : c.from-source.result < length c.args.disks.now = grind (arith, common_steps) in
    let ready : AreReady g.D.Disk.tells logs (map f disks) = ready_slot g.D.Disk.tells c.args.logs.now.items c.args.disks.now f c.from-source.result c.read_copy.new.slot c.read_copy.new.disk c.requires.ready in_logs in_disks c.read_copy.ensures.ready in
    let low_logs : c.from-place.result < length logs = grind (arith, common_steps, length-set c.args.logs.now.items c.from-source.result c.read_copy.new.slot) in
    let low : c.from-place.result < length disks = grind (arith, common_steps, length-set c.args.disks.now c.from-source.result c.read_copy.new.disk) in
    at_ok c.write_copy.result c.write_copy.ensures.ready (λ here. ready_slot g.D.Disk.tells logs disks f c.from-place.result c.write_copy.new.slot c.write_copy.new.disk ready low_logs low here)

-- ---- the counts

pub returns-in-Ok-clause-later : goal.returns-in-Ok-clause-later
returns-in-Ok-clause-later g c =
    let f : g.row.D.Denot → DiskSeen = λ disk. seen_as (g.D.Disk.size disk) (g.D.Disk.stands disk) (g.D.Disk.faults disk) in
    let disks = slice_set c.args.disks.now c.from-source.result c.read_copy.new.disk in
    let in_disks : c.from-source.result < length c.args.disks.now = grind (arith, common_steps) in
    let low : c.from-place.result < length disks = grind (arith, common_steps, length-set c.args.disks.now c.from-source.result c.read_copy.new.disk) in
    falls_then (map f c.args.disks.now) (map f disks) (map f (slice_set disks c.from-place.result c.write_copy.new.disk))
    (falls_not f c.args.disks.now c.from-source.result c.index-disks-source.result c.read_copy.new.disk in_disks c.read_copy.ensures.later)
    (falls_not f disks c.from-place.result c.index-disks-place.result c.write_copy.new.disk low c.write_copy.ensures.later)

pub returns-in-Ok-clause-paid : goal.returns-in-Ok-clause-paid
returns-in-Ok-clause-paid g c =
    let f : g.row.D.Denot → DiskSeen = λ disk. seen_as (g.D.Disk.size disk) (g.D.Disk.stands disk) (g.D.Disk.faults disk) in
    let disks = slice_set c.args.disks.now c.from-source.result c.read_copy.new.disk in
    let in_disks : c.from-source.result < length c.args.disks.now = grind (arith, common_steps) in
    let low : c.from-place.result < length disks = grind (arith, common_steps, length-set c.args.disks.now c.from-source.result c.read_copy.new.disk) in
    let place : c.from-place.result ≡ c.args.peer = grind (arith, common_steps) in
    copied_results c.args.from c.args.peer (seen_at (map f c.args.disks.now) c.args.peer).faults (seen_at (map f disks) c.args.peer).faults (seen_at (map f (slice_set disks c.from-place.result c.write_copy.new.disk)) c.args.peer).faults c.write_copy.result
    (falls_not f c.args.disks.now c.from-source.result c.index-disks-source.result c.read_copy.new.disk in_disks c.read_copy.ensures.later c.args.peer)
    (paid_at f disks c.args.peer c.from-place.result c.index-disks-place.result c.write_copy.new.disk c.write_copy.result place low c.write_copy.ensures.paid)

pub returns-in-Err-clause-later : goal.returns-in-Err-clause-later
returns-in-Err-clause-later g c =
    let f : g.row.D.Denot → DiskSeen = λ disk. seen_as (g.D.Disk.size disk) (g.D.Disk.stands disk) (g.D.Disk.faults disk) in
    let in_disks : c.from-source.result < length c.args.disks.now = grind (arith, common_steps) in
    falls_not f c.args.disks.now c.from-source.result c.index-disks-source.result c.read_copy.new.disk in_disks c.read_copy.ensures.later

pub returns-in-Err-clause-answer : goal.returns-in-Err-clause-answer
returns-in-Err-clause-answer g c = lead_answers c.args.peer c.args.from c.args.number c.failed_read.result c.failed_read.ensures.told

pub returns-in-Err-clause-bytes : goal.returns-in-Err-clause-bytes
returns-in-Err-clause-bytes g c = told_as c.failed_read.result (done.Failed c.args.from) TellsBytes tt c.failed_read.ensures.told

pub returns-in-Err-clause-paid : goal.returns-in-Err-clause-paid
returns-in-Err-clause-paid g c = told_as c.failed_read.result (done.Failed c.args.from) _ (inl refl) c.failed_read.ensures.told

pub returns-in-Ok-clause-calm : goal.returns-in-Ok-clause-calm
returns-in-Ok-clause-calm g c =
    let f : g.row.D.Denot → DiskSeen = λ disk. seen_as (g.D.Disk.size disk) (g.D.Disk.stands disk) (g.D.Disk.faults disk) in
    let disks = slice_set c.args.disks.now c.from-source.result c.read_copy.new.disk in
    let in_disks : c.from-source.result < length c.args.disks.now = grind (arith, common_steps) in
    let low : c.from-place.result < length disks = grind (arith, common_steps, length-set c.args.disks.now c.from-source.result c.read_copy.new.disk) in
    let place : c.from-place.result ≡ c.args.peer = grind (arith, common_steps) in
    stand_then (map f c.args.disks.now) (map f disks) (map f (slice_set disks c.from-place.result c.write_copy.new.disk)) c.write_copy.result
    (rises_not f c.args.disks.now c.from-source.result c.index-disks-source.result c.read_copy.new.disk in_disks c.in-Ok.ensures.calm)
    (stand_at f disks c.args.peer c.from-place.result c.index-disks-place.result c.write_copy.new.disk c.write_copy.result place low c.write_copy.ensures.calm)

pub returns-in-Err-clause-calm : goal.returns-in-Err-clause-calm
returns-in-Err-clause-calm g c =
    let f : g.row.D.Denot → DiskSeen = λ disk. seen_as (g.D.Disk.size disk) (g.D.Disk.stands disk) (g.D.Disk.faults disk) in
    let source : c.from-source.result ≡ c.args.from = grind (arith, common_steps) in
    told_as c.failed_read.result (done.Failed c.args.from) _ (stand_failed f c.args.disks.now c.args.from c.from-source.result c.read_copy.new.disk source) c.failed_read.ensures.told

-- ---- a read that failed

pub returns-then-source-len-clause-read : goal.returns-then-source-len-clause-read
returns-then-source-len-clause-read g c = λ told list waiting entry has found. tt

pub returns-in-Ok-clause-read : goal.returns-in-Ok-clause-read
returns-in-Ok-clause-read g c = λ told list waiting entry has found.
    let f : g.row.D.Denot → DiskSeen = λ disk. seen_as (g.D.Disk.size disk) (g.D.Disk.stands disk) (g.D.Disk.faults disk) in
    let disks = slice_set c.args.disks.now c.from-source.result c.read_copy.new.disk in
    let in_disks : c.from-source.result < length c.args.disks.now = grind (arith, common_steps) in
    let low : c.from-place.result < length disks = grind (arith, common_steps, length-set c.args.disks.now c.from-source.result c.read_copy.new.disk) in
    let place : c.from-place.result ≡ c.args.peer = grind (arith, common_steps) in
    risen_result c.args.peer c.write_copy.result (map f c.args.disks.now) (map f disks) (map f (slice_set disks c.from-place.result c.write_copy.new.disk))
    (falls_not f c.args.disks.now c.from-source.result c.index-disks-source.result c.read_copy.new.disk in_disks c.read_copy.ensures.later)
    (paid_at f disks c.args.peer c.from-place.result c.index-disks-place.result c.write_copy.new.disk c.write_copy.result place low c.write_copy.ensures.paid)

pub returns-in-Err-clause-read : goal.returns-in-Err-clause-read
returns-in-Err-clause-read g c = λ told list waiting entry has found.
    let f : g.row.D.Denot → DiskSeen = λ disk. seen_as (g.D.Disk.size disk) (g.D.Disk.stands disk) (g.D.Disk.faults disk) in
    let item : c.index_mut.result.now ≡ log_at c.args.logs.now.items c.from-source.result = grind (arith, common_steps) in
    let in_disks : c.from-source.result < length c.args.disks.now = grind (arith, common_steps) in
    let source : c.from-source.result ≡ c.args.from = grind (arith, common_steps) in
    failed_risen c.args.from c.in-Err.fault _ _ c.failed_read.result (map f c.args.disks.now) (map f (slice_set c.args.disks.now c.from-source.result c.read_copy.new.disk))
    (c.in-Err.ensures.refused told list waiting entry (log_read f c.args.logs.now.items c.args.disks.now c.args.from c.from-source.result c.index_mut.result.now c.index-disks-source.result list waiting source in_disks item has) found)
    c.in-Err.ensures.cause
    (risen_at f c.args.disks.now c.args.from c.from-source.result c.index-disks-source.result c.read_copy.new.disk source in_disks)
    c.failed_read.ensures.told c.failed_read.ensures.memory

-- ---- what it leaves

pub returns-in-Ok-clause-works : goal.returns-in-Ok-clause-works
returns-in-Ok-clause-works g c = λ head told.
    let f : g.row.D.Denot → DiskSeen = λ disk. seen_as (g.D.Disk.size disk) (g.D.Disk.stands disk) (g.D.Disk.faults disk) in
    let item : c.index_mut.result.now ≡ log_at c.args.logs.now.items c.from-source.result = grind (arith, common_steps) in
    let in_logs : c.from-source.result < length c.args.logs.now.items = grind (arith, common_steps) in
    let in_disks : c.from-source.result < length c.args.disks.now = grind (arith, common_steps) in
    let place_logs : c.from-place.result < length c.args.logs.now.items = grind (arith, common_steps) in
    let place_disks : c.from-place.result < length c.args.disks.now = grind (arith, common_steps) in
    let source : c.from-source.result ≡ c.args.from = grind (arith, common_steps) in
    let place : c.from-place.result ≡ c.args.peer = grind (arith, common_steps) in
    let here : c.index_mut-in-Ok.result.now ≡ log_at (slice_set c.args.logs.now.items c.from-source.result c.read_copy.new.slot) c.from-place.result = grind (arith, common_steps) in
    works_copied head c.args.logs.now.items c.args.disks.now f c.args.peer c.args.from c.from-source.result c.from-place.result c.args.number c.args.watch.now c.write_copy.new.watch
    c.index_mut.result.now c.read_copy.new.slot c.write_copy.new.slot c.index-disks-source.result c.index-disks-place.result c.read_copy.new.disk c.write_copy.new.disk c.in-Ok.entry c.write_copy.result
    source place item c.in-Ok.ensures.kept in_logs in_disks place_logs place_disks (c.read_copy.ensures.same told)
    (λ keeping list waiting at kept. c.in-Ok.ensures.found told keeping list waiting at kept)
    (λ theirs list waiting keeping last found at has. subst (λ o. HasCopied (record { before = c.args.watch.now; now = c.write_copy.new.watch; slot = o; kept = c.write_copy.new.slot; old = (f (slice_index_or (slice_set c.args.disks.now c.from-source.result c.read_copy.new.disk) c.from-place.result c.index-disks-place.result)).stands; new = (f c.write_copy.new.disk).stands }) c.args.peer c.args.from c.args.number theirs list c.write_copy.result) here
    (c.write_copy.ensures.copies c.args.from theirs list waiting keeping told last found (here ∙ at) has))
    c.write_copy.ensures.fails

pub returns-in-Err-clause-works : goal.returns-in-Err-clause-works
returns-in-Err-clause-works g c = λ head told.
    let f : g.row.D.Denot → DiskSeen = λ disk. seen_as (g.D.Disk.size disk) (g.D.Disk.stands disk) (g.D.Disk.faults disk) in
    let in_logs : c.args.from < length c.args.logs.now.items = grind (arith, common_steps) in
    let in_disks : c.from-source.result < length c.args.disks.now = grind (arith, common_steps) in
    let source : c.from-source.result ≡ c.args.from = grind (arith, common_steps) in
    works_read head c.args.logs.now.items c.args.disks.now f c.args.peer c.args.from c.from-source.result c.args.number c.args.watch.now c.read_copy.new.slot c.index-disks-source.result c.read_copy.new.disk c.failed_read.result
    source in_logs in_disks (c.read_copy.ensures.same told) c.in-Err.ensures.out c.failed_read.ensures.told (since_of f c.args.disks.now (g.met.D.Disk.since told) c.args.peer)

-- ---- every other disk

pub returns-then-source-len-clause-beside : goal.returns-then-source-len-clause-beside
returns-then-source-len-clause-beside g c =
    let f : g.row.D.Denot → DiskSeen = λ disk. seen_as (g.D.Disk.size disk) (g.D.Disk.stands disk) (g.D.Disk.faults disk) in
    beside_same g.D.Disk.tells c.args.peer (Some (job.Copy c.args.from c.args.number)) (map f c.args.disks.now)

pub returns-in-Ok-clause-beside : goal.returns-in-Ok-clause-beside
returns-in-Ok-clause-beside g c =
    let f : g.row.D.Denot → DiskSeen = λ disk. seen_as (g.D.Disk.size disk) (g.D.Disk.stands disk) (g.D.Disk.faults disk) in
    let in_disks : c.from-source.result < length c.args.disks.now = grind (arith, common_steps) in
    let source : c.from-source.result ≡ c.args.from = grind (arith, common_steps) in
    let place : c.from-place.result ≡ c.args.peer = grind (arith, common_steps) in
    let disks = slice_set c.args.disks.now c.from-source.result c.read_copy.new.disk in
    beside_then g.D.Disk.tells c.args.peer (Some (job.Copy c.args.from c.args.number)) (map f c.args.disks.now) (map f disks) (map f (slice_set disks c.from-place.result c.write_copy.new.disk))
    (beside_read g.D.Disk.tells f c.args.disks.now c.args.peer c.args.from c.from-source.result c.args.number c.index-disks-source.result c.read_copy.new.disk source in_disks c.read_copy.ensures.same)
    (beside_one g.D.Disk.tells f disks c.args.peer c.from-place.result c.write_copy.new.disk (Some (job.Copy c.args.from c.args.number)) place)

pub returns-in-Err-clause-beside : goal.returns-in-Err-clause-beside
returns-in-Err-clause-beside g c =
    let f : g.row.D.Denot → DiskSeen = λ disk. seen_as (g.D.Disk.size disk) (g.D.Disk.stands disk) (g.D.Disk.faults disk) in
    let in_disks : c.from-source.result < length c.args.disks.now = grind (arith, common_steps) in
    let source : c.from-source.result ≡ c.args.from = grind (arith, common_steps) in
    beside_read g.D.Disk.tells f c.args.disks.now c.args.peer c.args.from c.from-source.result c.args.number c.index-disks-source.result c.read_copy.new.disk source in_disks c.read_copy.ensures.same

-- ---- the lists go on

pub returns-then-source-len-clause-goes_on : goal.returns-then-source-len-clause-goes_on
returns-then-source-len-clause-goes_on g c = λ told p.
    let f : g.row.D.Denot → DiskSeen = λ disk. seen_as (g.D.Disk.size disk) (g.D.Disk.stands disk) (g.D.Disk.faults disk) in
    goes_same c.args.logs.now.items (map f c.args.disks.now) p

pub returns-in-Ok-clause-goes_on : goal.returns-in-Ok-clause-goes_on
returns-in-Ok-clause-goes_on g c = λ told p.
    let f : g.row.D.Denot → DiskSeen = λ disk. seen_as (g.D.Disk.size disk) (g.D.Disk.stands disk) (g.D.Disk.faults disk) in
    let logs = slice_set c.args.logs.now.items c.from-source.result c.read_copy.new.slot in
    let disks = slice_set c.args.disks.now c.from-source.result c.read_copy.new.disk in
    let item : c.index_mut.result.now ≡ log_at c.args.logs.now.items c.from-source.result = grind (arith, common_steps) in
    let in_logs : c.from-source.result < length c.args.logs.now.items = grind (arith, common_steps) in
    let in_disks : c.from-source.result < length c.args.disks.now = grind (arith, common_steps) in
    let here : c.index_mut-in-Ok.result.now ≡ log_at logs c.from-place.result = grind (arith, common_steps) in
    let low_logs : c.from-place.result < length logs = grind (arith, common_steps, length-set c.args.logs.now.items c.from-source.result c.read_copy.new.slot) in
    let low : c.from-place.result < length disks = grind (arith, common_steps, length-set c.args.disks.now c.from-source.result c.read_copy.new.disk) in
    goes_then c.args.logs.now.items logs (slice_set logs c.from-place.result c.write_copy.new.slot) (map f c.args.disks.now) (map f disks) (map f (slice_set disks c.from-place.result c.write_copy.new.disk)) p
    (goes_at c.args.logs.now.items c.args.disks.now f c.from-source.result c.index_mut.result.now c.read_copy.new.slot c.index-disks-source.result c.read_copy.new.disk p item in_logs in_disks
    (λ e. slot_same _ _ _ _ c.in-Ok.ensures.kept (c.read_copy.ensures.same told)))
    (goes_at logs disks f c.from-place.result c.index_mut-in-Ok.result.now c.write_copy.new.slot c.index-disks-place.result c.write_copy.new.disk p here low_logs low (λ e. c.write_copy.ensures.goes_on told))

pub returns-in-Err-clause-goes_on : goal.returns-in-Err-clause-goes_on
returns-in-Err-clause-goes_on g c = λ told p.
    let f : g.row.D.Denot → DiskSeen = λ disk. seen_as (g.D.Disk.size disk) (g.D.Disk.stands disk) (g.D.Disk.faults disk) in
    let item : c.index_mut.result.now ≡ log_at c.args.logs.now.items c.from-source.result = grind (arith, common_steps) in
    let in_logs : c.from-source.result < length c.args.logs.now.items = grind (arith, common_steps) in
    let in_disks : c.from-source.result < length c.args.disks.now = grind (arith, common_steps) in
    goes_at c.args.logs.now.items c.args.disks.now f c.from-source.result c.index_mut.result.now c.read_copy.new.slot c.index-disks-source.result c.read_copy.new.disk p item in_logs in_disks (λ e. slot_gone _ _ _ _ c.in-Err.ensures.out (λ none. c.read_copy.ensures.same told))

-- ---- whose header a stop leaves

pub returns-then-source-len-clause-headed : goal.returns-then-source-len-clause-headed
returns-then-source-len-clause-headed g c = λ told p header headed.
    let f : g.row.D.Denot → DiskSeen = λ disk. seen_as (g.D.Disk.size disk) (g.D.Disk.stands disk) (g.D.Disk.faults disk) in
    heads_stay header c.args.watch.now c.args.logs.now.items c.args.logs.now.items (map f c.args.disks.now) p (since_of f c.args.disks.now (g.met.D.Disk.since told) p) (λ keeping at. at) headed

pub returns-in-Ok-clause-headed : goal.returns-in-Ok-clause-headed
returns-in-Ok-clause-headed g c = λ told p header headed.
    let f : g.row.D.Denot → DiskSeen = λ disk. seen_as (g.D.Disk.size disk) (g.D.Disk.stands disk) (g.D.Disk.faults disk) in
    let logs = slice_set c.args.logs.now.items c.from-source.result c.read_copy.new.slot in
    let disks = slice_set c.args.disks.now c.from-source.result c.read_copy.new.disk in
    let item : c.index_mut.result.now ≡ log_at c.args.logs.now.items c.from-source.result = grind (arith, common_steps) in
    let in_logs : c.from-source.result < length c.args.logs.now.items = grind (arith, common_steps) in
    let in_disks : c.from-source.result < length c.args.disks.now = grind (arith, common_steps) in
    let here : c.index_mut-in-Ok.result.now ≡ log_at logs c.from-place.result = grind (arith, common_steps) in
    let low_logs : c.from-place.result < length logs = grind (arith, common_steps, length-set c.args.logs.now.items c.from-source.result c.read_copy.new.slot) in
    let low : c.from-place.result < length disks = grind (arith, common_steps, length-set c.args.disks.now c.from-source.result c.read_copy.new.disk) in
    heads_on header c.args.watch.now c.args.watch.now c.write_copy.new.watch logs (slice_set logs c.from-place.result c.write_copy.new.slot) (map f c.args.disks.now) (map f disks) (map f (slice_set disks c.from-place.result c.write_copy.new.disk)) p
    (heads_at header c.args.watch.now c.args.watch.now c.args.logs.now.items c.args.disks.now f c.from-source.result c.index_mut.result.now c.read_copy.new.slot c.index-disks-source.result c.read_copy.new.disk p (omega arith) (since_of f c.args.disks.now (g.met.D.Disk.since told) p) item in_logs in_disks
    (λ e one. subst (λ d. StaysHeaded header c.args.watch.now c.args.watch.now (f (slice_index_or c.args.disks.now c.from-source.result c.index-disks-source.result)).stands d c.read_copy.new.slot) (sym (c.read_copy.ensures.same told))
    (headed_still header c.args.watch.now c.index_mut.result.now c.read_copy.new.slot _ (g.met.D.Disk.since told _) one (λ keeping at. sym c.in-Ok.ensures.kept ∙ at))) headed)
    (λ mid. heads_at header c.args.watch.now c.write_copy.new.watch logs disks f c.from-place.result c.index_mut-in-Ok.result.now c.write_copy.new.slot c.index-disks-place.result c.write_copy.new.disk p c.write_copy.ensures.ticks (since_of f disks (g.met.D.Disk.since told) p) here low_logs low
    (λ e one. c.write_copy.ensures.headed told header one) mid)

pub returns-in-Err-clause-headed : goal.returns-in-Err-clause-headed
returns-in-Err-clause-headed g c = λ told p header headed.
    let f : g.row.D.Denot → DiskSeen = λ disk. seen_as (g.D.Disk.size disk) (g.D.Disk.stands disk) (g.D.Disk.faults disk) in
    let item : c.index_mut.result.now ≡ log_at c.args.logs.now.items c.from-source.result = grind (arith, common_steps) in
    let in_logs : c.from-source.result < length c.args.logs.now.items = grind (arith, common_steps) in
    let in_disks : c.from-source.result < length c.args.disks.now = grind (arith, common_steps) in
    heads_at header c.args.watch.now c.args.watch.now c.args.logs.now.items c.args.disks.now f c.from-source.result c.index_mut.result.now c.read_copy.new.slot c.index-disks-source.result c.read_copy.new.disk p (omega arith) (since_of f c.args.disks.now (g.met.D.Disk.since told) p) item in_logs in_disks
    (λ e one. subst (λ d. StaysHeaded header c.args.watch.now c.args.watch.now (f (slice_index_or c.args.disks.now c.from-source.result c.index-disks-source.result)).stands d c.read_copy.new.slot) (sym (c.read_copy.ensures.same told))
    (headed_still header c.args.watch.now c.index_mut.result.now c.read_copy.new.slot _ (g.met.D.Disk.since told _) one (λ keeping at. none_there keeping (sym c.in-Err.ensures.out ∙ at)))) headed
