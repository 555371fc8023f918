use Rattle.std.proofs.Common.{◌≡◌, map, refl, subst}
use Rattle.hs_cluster.proofs.CopyLemmas.{beside_same}
use Rattle.hs_cluster.proofs.CountLemmas.{falls_same}
use Rattle.hs_cluster.proofs.DiskLemmas.{since_of}
use Rattle.hs_cluster.proofs.GrowingLemmas.{goes_same}
use Rattle.hs_cluster.proofs.HeadLemmas.{heads_stay}
use Rattle.hs_cluster.proofs.ReadLemmas.{some_job}
use Rattle.hs_cluster.proofs.RecallLemmas.{keeps_less, keeps_then, recalled_all_paid, recalled_answer, recalled_bytes, recalled_paid, recalled_reads, recalled_tells, recalled_works}
use Rattle.hs_cluster.specs.Cached.{IsRecalled}
use Rattle.hs_cluster.specs.Disks.{DiskSeen, seen_as}
use Rattle.hs_core_words.specs.Looking.{first_job, front_of, home}
use Rattle.hs_side.specs.Headers.{own_header}
use Rattle.hs_cluster.proofs.recall.do_first.Goals as goal

-- ---- what is cached

pub returns-in-Some-clause-kept : goal.returns-in-Some-clause-kept
returns-in-Some-clause-kept g c = keeps_less (home c.args.peer c.args.core.now) (front_of (home c.args.peer c.args.core.now) c.args.core.now) c.in-Some.done c.args.cache.now c.cached_read.new.cache c.cached_read.ensures.fewer

pub returns-in-Ok-clause-kept : goal.returns-in-Ok-clause-kept
returns-in-Ok-clause-kept g c =
    keeps_then (home c.args.peer c.args.core.now) (front_of (home c.args.peer c.args.core.now) c.args.core.now) c.in-Ok.done c.args.cache.now c.cached_read.new.cache c.keep_told.new.cache c.cached_read.ensures.fewer c.keep_told.ensures

-- ---- what is told from there

pub returns-in-Some-clause-answer : goal.returns-in-Some-clause-answer
returns-in-Some-clause-answer g c = recalled_answer c.args.core.now c.args.logs.now.items c.args.cache.now c.args.peer c.in-Some.done (subst (λ l. IsRecalled c.args.core.now l c.args.cache.now c.args.peer c.in-Some.done) c.as_slice.ensures.value c.in-Some.ensures.told)

pub returns-in-Some-clause-bytes : goal.returns-in-Some-clause-bytes
returns-in-Some-clause-bytes g c = recalled_bytes c.args.core.now c.args.logs.now.items c.args.cache.now c.args.peer c.in-Some.done (subst (λ l. IsRecalled c.args.core.now l c.args.cache.now c.args.peer c.in-Some.done) c.as_slice.ensures.value c.in-Some.ensures.told)

pub returns-in-Some-clause-works : goal.returns-in-Some-clause-works
returns-in-Some-clause-works g c = λ told.
    let f : g.row.D.Denot → DiskSeen = λ disk. seen_as (g.D.Disk.size disk) (g.D.Disk.stands disk) (g.D.Disk.faults disk) in
    recalled_works c.args.core.now c.args.logs.now.items c.args.cache.now c.args.peer c.in-Some.done (subst (λ l. IsRecalled c.args.core.now l c.args.cache.now c.args.peer c.in-Some.done) c.as_slice.ensures.value c.in-Some.ensures.told) (map f c.args.disks.now)
    (own_header c.args.core.now.members.shape c.args.peer) c.args.watch.now (since_of f c.args.disks.now (g.met.D.Disk.since told) c.args.peer)

pub returns-in-Some-clause-beside : goal.returns-in-Some-clause-beside
returns-in-Some-clause-beside g c =
    let f : g.row.D.Denot → DiskSeen = λ disk. seen_as (g.D.Disk.size disk) (g.D.Disk.stands disk) (g.D.Disk.faults disk) in
    beside_same g.D.Disk.tells c.args.peer (first_job c.args.peer c.args.core.now) (map f c.args.disks.now)

pub returns-in-Some-clause-goes_on : goal.returns-in-Some-clause-goes_on
returns-in-Some-clause-goes_on g c = λ told p apart.
    let f : g.row.D.Denot → DiskSeen = λ disk. seen_as (g.D.Disk.size disk) (g.D.Disk.stands disk) (g.D.Disk.faults disk) in
    goes_same c.args.logs.now.items (map f c.args.disks.now) p

pub returns-in-Some-clause-headed : goal.returns-in-Some-clause-headed
returns-in-Some-clause-headed g c = λ told p headed.
    let f : g.row.D.Denot → DiskSeen = λ disk. seen_as (g.D.Disk.size disk) (g.D.Disk.stands disk) (g.D.Disk.faults disk) in
    heads_stay (own_header c.args.core.now.members.shape p) c.args.watch.now c.args.logs.now.items c.args.logs.now.items (map f c.args.disks.now) p (since_of f c.args.disks.now (g.met.D.Disk.since told) p) (λ keeping at. at) headed

pub returns-in-Some-clause-later : goal.returns-in-Some-clause-later
returns-in-Some-clause-later g c =
    let f : g.row.D.Denot → DiskSeen = λ disk. seen_as (g.D.Disk.size disk) (g.D.Disk.stands disk) (g.D.Disk.faults disk) in
    falls_same (map f c.args.disks.now)

pub returns-in-Some-clause-paid : goal.returns-in-Some-clause-paid
returns-in-Some-clause-paid g c =
    let f : g.row.D.Denot → DiskSeen = λ disk. seen_as (g.D.Disk.size disk) (g.D.Disk.stands disk) (g.D.Disk.faults disk) in
    recalled_paid c.args.core.now c.args.logs.now.items c.args.cache.now c.args.peer c.in-Some.done (subst (λ l. IsRecalled c.args.core.now l c.args.cache.now c.args.peer c.in-Some.done) c.as_slice.ensures.value c.in-Some.ensures.told) (map f c.args.disks.now)

pub returns-in-Some-clause-calm : goal.returns-in-Some-clause-calm
returns-in-Some-clause-calm g c = λ disk differs. refl

pub returns-in-Some-clause-had : goal.returns-in-Some-clause-had
returns-in-Some-clause-had g c = λ own. (subst (λ l. IsRecalled c.args.core.now l c.args.cache.now c.args.peer c.in-Some.done) c.as_slice.ensures.value c.in-Some.ensures.told).used

pub returns-in-Some-clause-reads : goal.returns-in-Some-clause-reads
returns-in-Some-clause-reads g c = λ told own list waiting each j at.
    let f : g.row.D.Denot → DiskSeen = λ disk. seen_as (g.D.Disk.size disk) (g.D.Disk.stands disk) (g.D.Disk.faults disk) in
    recalled_reads c.args.core.now c.args.logs.now.items c.args.cache.now c.args.peer c.in-Some.done (subst (λ l. IsRecalled c.args.core.now l c.args.cache.now c.args.peer c.in-Some.done) c.as_slice.ensures.value c.in-Some.ensures.told) (map f c.args.disks.now) list waiting each j at

pub returns-in-Ok-clause-reads : goal.returns-in-Ok-clause-reads
returns-in-Ok-clause-reads g c = λ told own list waiting each j at. (c.in-Ok.ensures.reads told own list waiting each j at).log

pub returns-in-Some-clause-told : goal.returns-in-Some-clause-told
returns-in-Some-clause-told g c = λ told own list waiting each blocks.
    recalled_tells c.args.core.now c.args.logs.now.items c.args.cache.now c.args.peer c.in-Some.done (subst (λ l. IsRecalled c.args.core.now l c.args.cache.now c.args.peer c.in-Some.done) c.as_slice.ensures.value c.in-Some.ensures.told) list blocks

pub returns-in-Ok-clause-told : goal.returns-in-Ok-clause-told
returns-in-Ok-clause-told g c = λ told own list waiting each blocks.
    let first = some_job c.args.core.now c.args.peer c.in-Ok.done c.in-Ok.ensures.answer in
    (c.in-Ok.ensures.reads told own list waiting each first.0 first.1).told

pub returns-in-Some-clause-read : goal.returns-in-Some-clause-read
returns-in-Some-clause-read g c = λ told own list waiting each stored.
    let f : g.row.D.Denot → DiskSeen = λ disk. seen_as (g.D.Disk.size disk) (g.D.Disk.stands disk) (g.D.Disk.faults disk) in
    recalled_all_paid c.args.core.now c.args.logs.now.items c.args.cache.now c.args.peer c.in-Some.done (subst (λ l. IsRecalled c.args.core.now l c.args.cache.now c.args.peer c.in-Some.done) c.as_slice.ensures.value c.in-Some.ensures.told) (map f c.args.disks.now)

pub returns-in-Some-clause-emptied : goal.returns-in-Some-clause-emptied
returns-in-Some-clause-emptied g c = λ first.
    let f : g.row.D.Denot → DiskSeen = λ disk. seen_as (g.D.Disk.size disk) (g.D.Disk.stands disk) (g.D.Disk.faults disk) in
    recalled_all_paid c.args.core.now c.args.logs.now.items c.args.cache.now c.args.peer c.in-Some.done (subst (λ l. IsRecalled c.args.core.now l c.args.cache.now c.args.peer c.in-Some.done) c.as_slice.ensures.value c.in-Some.ensures.told) (map f c.args.disks.now)

pub returns-in-Some-clause-copied : goal.returns-in-Some-clause-copied
returns-in-Some-clause-copied g c = λ told from number first list waiting entry each there.
    let f : g.row.D.Denot → DiskSeen = λ disk. seen_as (g.D.Disk.size disk) (g.D.Disk.stands disk) (g.D.Disk.faults disk) in
    recalled_all_paid c.args.core.now c.args.logs.now.items c.args.cache.now c.args.peer c.in-Some.done (subst (λ l. IsRecalled c.args.core.now l c.args.cache.now c.args.peer c.in-Some.done) c.as_slice.ensures.value c.in-Some.ensures.told) (map f c.args.disks.now)
