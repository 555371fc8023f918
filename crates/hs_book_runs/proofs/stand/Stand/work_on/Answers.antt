use Rattle.std.proofs.Common.{arith}
use Rattle.hs_taking.specs.Disks.{DiskSeen, seen_as}
use Rattle.hs_book_runs.proofs.SlotLemmas.{slot_there}
use Rattle.hs_book_runs.proofs.stand.Stand.work_on.Goals as goal

pub do_in_slot-requires-clause-ready : goal.do_in_slot-requires-clause-ready
do_in_slot-requires-clause-ready g c =
    let seen : g.row.D.Denot → DiskSeen = λ disk. seen_as (g.D.Disk.size disk) (g.D.Disk.stands disk) (g.D.Disk.faults disk) in
    let both = c.self.invariant.0 in
    let below = c.if-at-len.false in
    let len = c.len.ensures in
    slot_there g.D.Disk.tells c.self.inside.logs.items c.self.inside.disks.items seen c.from-at.result c.index_mut.result.now c.index_mut-2.result.now c.self.invariant.1
    (omega (arith, both, c.self.inside.logs.ok.0, c.self.inside.disks.ok.0)) (omega (arith, below, len, c.self.inside.logs.ok.0)) c.index_mut.ensures.value c.index_mut-2.ensures.value
