use Rattle.std.proofs.Common.{◌∙◌, arith, refl, sym}
use Rattle.hs_cluster.proofs.EmptyLemmas.{log_taken, write_cut, write_failed, write_ok}
use Rattle.hs_cluster.proofs.GrowingLemmas.{slot_copied, slot_fails, slot_gone}
use Rattle.hs_cluster.proofs.HeadLemmas.{headed_gone, headed_log, headed_ok}
use Rattle.hs_taking.proofs.HeadLemmas.{heads_still}
use Rattle.hs_cluster.proofs.job.write_copy.Goals as goal

pub returns-in-Ok-clause-copies : goal.returns-in-Ok-clause-copies
returns-in-Ok-clause-copies g c = λ from source list waiting keeping told last found at has.
    let had = log_taken c.args.slot.now c.take.result c.in-Some.log keeping (g.D.Disk.stands c.args.disk.now) list waiting c.take.ensures.value c.in-Some.is at has in
    write_ok _ c.args.peer from c.args.number c.in-Some.log c.keep_copy.new.log source list waiting c.args.entry.now found had c.in-Ok.ensures.next refl (c.in-Ok.ensures.list told last list waiting had)
    (c.keep_copy.ensures.any_moment told last list waiting had)

pub returns-in-Err-NoMemory-clause-copies : goal.returns-in-Err-NoMemory-clause-copies
returns-in-Err-NoMemory-clause-copies g c = λ from source list waiting keeping told last found at has.
    let had = log_taken c.args.slot.now c.take.result c.in-Some.log keeping (g.D.Disk.stands c.args.disk.now) list waiting c.take.ensures.value c.in-Some.is at has in
    write_cut _ c.args.peer from c.args.number c.in-Some.log source list waiting c.args.entry.now _ found had (c.keep_copy.ensures.any_moment told last list waiting had)

pub returns-clause-copies : goal.returns-clause-copies
returns-clause-copies g c = λ from source list waiting keeping told last found at has.
    let had = log_taken c.args.slot.now c.take.result c.in-Some.log keeping (g.D.Disk.stands c.args.disk.now) list waiting c.take.ensures.value c.in-Some.is at has in
    write_failed _ c.args.peer from c.args.number c.in-Some.log source list waiting c.args.entry.now found had c.take.ensures.after (c.keep_copy.ensures.any_moment told last list waiting had)

pub returns-in-Ok-clause-goes_on : goal.returns-in-Ok-clause-goes_on
returns-in-Ok-clause-goes_on g c = λ told.
    slot_copied c.args.slot.now c.in-Some.log c.keep_copy.new.log (g.D.Disk.stands c.args.disk.now) (g.D.Disk.stands c.keep_copy.new.disk) c.args.entry.now (sym c.take.ensures.value ∙ c.in-Some.is)
    (λ list waiting has. c.in-Ok.ensures.reads told list waiting has)

pub returns-in_default-clause-goes_on : goal.returns-in_default-clause-goes_on
returns-in_default-clause-goes_on g c = λ told. slot_gone _ _ _ _ c.take.ensures.after (λ none. refl)

pub returns-in-Err-NoMemory-clause-goes_on : goal.returns-in-Err-NoMemory-clause-goes_on
returns-in-Err-NoMemory-clause-goes_on g c = λ told. slot_fails _ c.in-Some.log _ _ _ (sym c.take.ensures.value ∙ c.in-Some.is) c.take.ensures.after

pub returns-clause-goes_on : goal.returns-clause-goes_on
returns-clause-goes_on g c = λ told. slot_fails _ c.in-Some.log _ _ _ (sym c.take.ensures.value ∙ c.in-Some.is) c.take.ensures.after

pub returns-in_default-clause-headed : goal.returns-in_default-clause-headed
returns-in_default-clause-headed g c = λ told header headed.
    headed_gone header c.args.watch.now c.args.watch.now (g.D.Disk.stands c.args.disk.now) (g.D.Disk.stands c.args.disk.now) _ c.take.ensures.after
    (heads_still header c.args.watch.now c.args.watch.now (g.D.Disk.stands c.args.disk.now) (omega arith) headed.called (g.met.D.Disk.since told c.args.disk.now) headed.leaves)

pub returns-in-Ok-clause-headed : goal.returns-in-Ok-clause-headed
returns-in-Ok-clause-headed g c = λ told header headed.
    let one = c.in-Ok.ensures.headed told header (headed_log header c.args.watch.now c.args.slot.now c.in-Some.log (g.D.Disk.stands c.args.disk.now) (sym c.take.ensures.value ∙ c.in-Some.is) headed) in
    headed_ok header c.args.watch.now c.keep_copy.new.watch (g.D.Disk.stands c.args.disk.now) (g.D.Disk.stands c.keep_copy.new.disk) c.keep_copy.new.log one.disk one.log

pub returns-in-Err-NoMemory-clause-headed : goal.returns-in-Err-NoMemory-clause-headed
returns-in-Err-NoMemory-clause-headed g c = λ told header headed.
    headed_gone header c.args.watch.now c.keep_copy.new.watch (g.D.Disk.stands c.args.disk.now) (g.D.Disk.stands c.keep_copy.new.disk) _ c.take.ensures.after
    (c.keep_copy.ensures.headed told header (headed_log header c.args.watch.now c.args.slot.now c.in-Some.log (g.D.Disk.stands c.args.disk.now) (sym c.take.ensures.value ∙ c.in-Some.is) headed)).disk

pub returns-clause-headed : goal.returns-clause-headed
returns-clause-headed g c = λ told header headed.
    headed_gone header c.args.watch.now c.keep_copy.new.watch (g.D.Disk.stands c.args.disk.now) (g.D.Disk.stands c.keep_copy.new.disk) _ c.take.ensures.after
    (c.keep_copy.ensures.headed told header (headed_log header c.args.watch.now c.args.slot.now c.in-Some.log (g.D.Disk.stands c.args.disk.now) (sym c.take.ensures.value ∙ c.in-Some.is) headed)).disk
