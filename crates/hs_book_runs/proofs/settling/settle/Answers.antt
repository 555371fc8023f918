use Rattle.std.proofs.Common.{map, subst, sym}
use Rattle.hs_taking.specs.Disks.{AreReady, DiskSeen, seen_as}
use Rattle.hs_book_runs.proofs.settling.settle.Goals as goal

pub run-requires-clause-ready : goal.run-requires-clause-ready
run-requires-clause-ready g c =
    let seen : g.row.D.Denot → DiskSeen = λ disk. seen_as (g.D.Disk.size disk) (g.D.Disk.stands disk) (g.D.Disk.faults disk) in
    subst (λ xs. AreReady g.D.Disk.tells c.args.cluster.now.logs (map seen xs)) (sym c.as_mut_slice.ensures.value) c.requires.ready
