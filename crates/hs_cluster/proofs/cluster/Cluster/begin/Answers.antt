use Rattle.std.proofs.Common.{◌∙◌, map, sym, subst, ◌<◌}
use Rattle.std.proofs.lemmas.List.{length-map}
use Rattle.hs_cluster.proofs.BeginLemmas.{begins_ok, closed_memory, closed_of, unwritten_memory, unwritten_of}
use Rattle.hs_cluster.proofs.CountLemmas.{falls_within}
use Rattle.hs_cluster.specs.Disks.{DiskSeen, seen_as}
use Rattle.hs_fold.specs.Shards.Setting.{Setting}
use Rattle.hs_taking.specs.Shares.{Span, Taken}
use Rattle.hs_cluster.proofs.cluster.Cluster.begin.Goals as goal

pub returns-clause-begins : goal.returns-clause-begins
returns-clause-begins g c =
    let f : g.row.D.Denot → DiskSeen = λ disk. seen_as (g.D.Disk.size disk) (g.D.Disk.stands disk) (g.D.Disk.faults disk) in
    let set : Setting = record { name = g.A.Addresser.name c.args.naming.now; limits = c.args.limits; shape = c.args.shape } in
    let span : Span = record { before = c.args.watch.now; now = c.read_store.new.watch; old = map f c.args.disks.now; new = map f c.read_store.new.disks } in
    let taken : Taken = record { logs = c.in-Ok.taking.logs.items; shares = c.in-Ok.taking.shares.items } in
    begins_ok g.D.Disk.tells set span taken c.now-entry.result c.now.result c.begun.result c.now-entry.ensures.value c.now.ensures.value
    c.requires.shape c.in-Ok.ensures.evened c.in-Ok.ensures.shares c.in-Ok.ensures.logs c.read_store.ensures.ticks
    (length-map c.args.disks.now f ∙ c.requires.count)
    (length-map c.read_store.new.disks f ∙ c.read_store.ensures.count ∙ sym (length-map c.args.disks.now f))
    (falls_within span.old span.new (λ peer low. c.read_store.ensures.counted peer (subst (λ n. peer < n) (length-map c.args.disks.now f) low)))
    (λ told peer found low refused. c.in-Ok.ensures.own told peer found (subst (λ n. peer < n) (length-map c.args.disks.now f) low) refused)
    c.in-Ok.ensures.heads (λ peer low. c.read_store.ensures.headed peer (subst (λ n. peer < n) (length-map c.args.disks.now f) low))
    c.begun.ensures.logs c.begun.ensures.core c.begun.ensures.course c.begun.ensures.uncached

pub returns-clause-closed : goal.returns-clause-closed
returns-clause-closed g c = closed_memory _ _ _ _ _ c.begun.ensures.only

pub returns-clause-unwritten : goal.returns-clause-unwritten
returns-clause-unwritten g c = unwritten_memory _ _ c.begun.ensures.only

pub returns-in-Err-clause-closed : goal.returns-in-Err-clause-closed
returns-in-Err-clause-closed g c = closed_of _ _ _ _ c.in-Err.fault _ c.from.ensures c.in-Err.ensures.other

pub returns-in-Err-clause-unwritten : goal.returns-in-Err-clause-unwritten
returns-in-Err-clause-unwritten g c = unwritten_of _ c.in-Err.fault _ c.from.ensures c.in-Err.ensures.unwritten

pub returns-clause-counted : goal.returns-clause-counted
returns-clause-counted g c =
    let f : g.row.D.Denot → DiskSeen = λ disk. seen_as (g.D.Disk.size disk) (g.D.Disk.stands disk) (g.D.Disk.faults disk) in
    falls_within (map f c.args.disks.now) (map f c.read_store.new.disks) (λ peer low. c.read_store.ensures.counted peer (subst (λ n. peer < n) (length-map c.args.disks.now f) low))

pub returns-in-Err-clause-counted : goal.returns-in-Err-clause-counted
returns-in-Err-clause-counted g c =
    let f : g.row.D.Denot → DiskSeen = λ disk. seen_as (g.D.Disk.size disk) (g.D.Disk.stands disk) (g.D.Disk.faults disk) in
    falls_within (map f c.args.disks.now) (map f c.read_store.new.disks) (λ peer low. c.read_store.ensures.counted peer (subst (λ n. peer < n) (length-map c.args.disks.now f) low))

pub returns-clause-keeps : goal.returns-clause-keeps
returns-clause-keeps g c = λ one.
    let f : g.row.D.Denot → DiskSeen = λ disk. seen_as (g.D.Disk.size disk) (g.D.Disk.stands disk) (g.D.Disk.faults disk) in
    record { each = λ peer low. c.read_store.ensures.keeps one peer (subst (λ n. peer < n) (length-map c.args.disks.now f) low) }

pub returns-in-Err-clause-keeps : goal.returns-in-Err-clause-keeps
returns-in-Err-clause-keeps g c = λ one.
    let f : g.row.D.Denot → DiskSeen = λ disk. seen_as (g.D.Disk.size disk) (g.D.Disk.stands disk) (g.D.Disk.faults disk) in
    record { each = λ peer low. c.read_store.ensures.keeps one peer (subst (λ n. peer < n) (length-map c.args.disks.now f) low) }
