use Rattle.std.proofs.Common.{◌∙◌, arith, refl, sym}
use Rattle.hs_cluster.proofs.GrowingLemmas.{slot_fails, slot_gone, slot_own}
use Rattle.hs_cluster.proofs.HeadLemmas.{headed_gone, headed_log, headed_ok}
use Rattle.hs_taking.proofs.HeadLemmas.{heads_still}
use Rattle.hs_cluster.proofs.job.do_usual.Goals as goal

pub returns-in-Ok-clause-goes_on : goal.returns-in-Ok-clause-goes_on
returns-in-Ok-clause-goes_on g c = λ told.
    slot_own c.args.slot.now c.in-Some.log c.do_own.new.log (g.D.Disk.stands c.args.disk.now) (g.D.Disk.stands c.do_own.new.disk) c.args.job.now c.in-Ok.done (sym c.take.ensures.value ∙ c.in-Some.is) c.requires.usual c.in-Ok.ensures.done
    (λ list waiting has. c.in-Ok.ensures.reads told c.requires.usual list waiting has)

pub returns-in_default-clause-goes_on : goal.returns-in_default-clause-goes_on
returns-in_default-clause-goes_on g c = λ told. slot_gone _ _ _ _ c.take.ensures.after (λ none. refl)

pub returns-in-Err-NoMemory-clause-goes_on : goal.returns-in-Err-NoMemory-clause-goes_on
returns-in-Err-NoMemory-clause-goes_on g c = λ told. slot_fails _ c.in-Some.log _ _ _ (sym c.take.ensures.value ∙ c.in-Some.is) c.take.ensures.after

pub returns-clause-goes_on : goal.returns-clause-goes_on
returns-clause-goes_on g c = λ told. slot_fails _ c.in-Some.log _ _ _ (sym c.take.ensures.value ∙ c.in-Some.is) c.take.ensures.after

pub returns-in_default-clause-headed : goal.returns-in_default-clause-headed
returns-in_default-clause-headed g c = λ told header headed.
    headed_gone header c.args.watch.now c.args.watch.now (g.D.Disk.stands c.args.disk.now) (g.D.Disk.stands c.args.disk.now) _ c.take.ensures.after
    (heads_still header c.args.watch.now c.args.watch.now (g.D.Disk.stands c.args.disk.now) (omega arith) headed.called (g.met.D.Disk.since told c.args.disk.now) headed.leaves)

pub returns-in-Ok-clause-headed : goal.returns-in-Ok-clause-headed
returns-in-Ok-clause-headed g c = λ told header headed.
    let one = c.in-Ok.ensures.headed told c.requires.usual header (headed_log header c.args.watch.now c.args.slot.now c.in-Some.log (g.D.Disk.stands c.args.disk.now) (sym c.take.ensures.value ∙ c.in-Some.is) headed) in
    headed_ok header c.args.watch.now c.do_own.new.watch (g.D.Disk.stands c.args.disk.now) (g.D.Disk.stands c.do_own.new.disk) c.do_own.new.log one.disk one.log

pub returns-in-Err-NoMemory-clause-headed : goal.returns-in-Err-NoMemory-clause-headed
returns-in-Err-NoMemory-clause-headed g c = λ told header headed.
    headed_gone header c.args.watch.now c.do_own.new.watch (g.D.Disk.stands c.args.disk.now) (g.D.Disk.stands c.do_own.new.disk) _ c.take.ensures.after
    (c.do_own.ensures.headed told c.requires.usual header (headed_log header c.args.watch.now c.args.slot.now c.in-Some.log (g.D.Disk.stands c.args.disk.now) (sym c.take.ensures.value ∙ c.in-Some.is) headed)).disk

pub returns-clause-headed : goal.returns-clause-headed
returns-clause-headed g c = λ told header headed.
    headed_gone header c.args.watch.now c.do_own.new.watch (g.D.Disk.stands c.args.disk.now) (g.D.Disk.stands c.do_own.new.disk) _ c.take.ensures.after
    (c.do_own.ensures.headed told c.requires.usual header (headed_log header c.args.watch.now c.args.slot.now c.in-Some.log (g.D.Disk.stands c.args.disk.now) (sym c.take.ensures.value ∙ c.in-Some.is) headed)).disk
