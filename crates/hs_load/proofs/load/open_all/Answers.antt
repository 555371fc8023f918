use Rattle.std.proofs.Common.{◌≡◌, ◌∙◌, ◌++◌, List, length, map, take, drop, sym, subst, arith}
use Rattle.std.specs.Prelude.{IfErr, IfOk}
use Rattle.hs_cluster.specs.Begins.{HasOpened, IsClosed}
use Rattle.hs_cluster.specs.Counts.{NoneFalls}
use Rattle.hs_limits.specs.Limits.{greatest_limits}
use Rattle.hs_limits.specs.declared.limits.Limits.{Limits}
use Rattle.hs_taking.specs.Disks.{DiskSeen, seen_as}
use Rattle.hs_load.proofs.ListLemmas.{written}
use Rattle.hs_load.proofs.load.open_all.Goals as goal

pub returns-clause-opened : goal.returns-clause-opened
returns-clause-opened g c =
    let seen : g.row.D.Denot → DiskSeen = λ disk. seen_as (g.D.Disk.size disk) (g.D.Disk.stands disk) (g.D.Disk.faults disk) in
    let news = c.open.new.disks in
    let count = c.open.ensures.count in
    let len = c.as_mut_slice.ensures.len in
    let back : take c.args.disks.now.len (news ++ drop (length news) c.args.disks.now.items) ≡ news = written c.args.disks.now.len news (drop (length news) c.args.disks.now.items) (omega (arith, count, len)) in
    subst (λ (limits : Limits). IfOk c.open.result (λ opened. HasOpened g.D.Disk.tells (record { name = g.A.Addresser.name c.args.naming.now; limits = limits; shape = c.args.shape })
    (record { before = c.args.watch.now; now = c.open.new.watch; old = map seen c.args.disks.now.items; new = map seen (take c.args.disks.now.len (news ++ drop (length news) c.args.disks.now.items)) }) opened.cluster opened.done)) c.greatest.ensures
    (subst (λ xs. IfOk c.open.result (λ opened. HasOpened g.D.Disk.tells (record { name = g.A.Addresser.name c.args.naming.now; limits = c.greatest.result; shape = c.args.shape })
    (record { before = c.args.watch.now; now = c.open.new.watch; old = map seen xs; new = map seen (take c.args.disks.now.len (news ++ drop (length news) c.args.disks.now.items)) }) opened.cluster opened.done)) c.as_mut_slice.ensures.value
    (subst (λ xs. IfOk c.open.result (λ opened. HasOpened g.D.Disk.tells (record { name = g.A.Addresser.name c.args.naming.now; limits = c.greatest.result; shape = c.args.shape })
    (record { before = c.args.watch.now; now = c.open.new.watch; old = map seen c.as_mut_slice.result.now; new = map seen xs }) opened.cluster opened.done)) (sym back) c.open.ensures.opened))

pub returns-clause-closed : goal.returns-clause-closed
returns-clause-closed g c =
    let seen : g.row.D.Denot → DiskSeen = λ disk. seen_as (g.D.Disk.size disk) (g.D.Disk.stands disk) (g.D.Disk.faults disk) in
    let news = c.open.new.disks in
    let count = c.open.ensures.count in
    let len = c.as_mut_slice.ensures.len in
    let back : take c.args.disks.now.len (news ++ drop (length news) c.args.disks.now.items) ≡ news = written c.args.disks.now.len news (drop (length news) c.args.disks.now.items) (omega (arith, count, len)) in
    subst (λ xs. IfErr c.open.result (IsClosed g.D.Disk.tells c.args.shape (map seen xs) (map seen (take c.args.disks.now.len (news ++ drop (length news) c.args.disks.now.items))))) c.as_mut_slice.ensures.value
    (subst (λ xs. IfErr c.open.result (IsClosed g.D.Disk.tells c.args.shape (map seen c.as_mut_slice.result.now) (map seen xs))) (sym back) c.open.ensures.closed)

pub returns-clause-falls : goal.returns-clause-falls
returns-clause-falls g c =
    let seen : g.row.D.Denot → DiskSeen = λ disk. seen_as (g.D.Disk.size disk) (g.D.Disk.stands disk) (g.D.Disk.faults disk) in
    let news = c.open.new.disks in
    let count = c.open.ensures.count in
    let len = c.as_mut_slice.ensures.len in
    let back : take c.args.disks.now.len (news ++ drop (length news) c.args.disks.now.items) ≡ news = written c.args.disks.now.len news (drop (length news) c.args.disks.now.items) (omega (arith, count, len)) in
    subst (λ xs. NoneFalls (map seen xs) (map seen (take c.args.disks.now.len (news ++ drop (length news) c.args.disks.now.items)))) c.as_mut_slice.ensures.value
    (subst (λ xs. NoneFalls (map seen c.as_mut_slice.result.now) (map seen xs)) (sym back) c.open.ensures.counted)
