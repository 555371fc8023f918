use Rattle.std.proofs.Common.{refl, subst, sym, ◌∙◌}
use Rattle.hs_desk.specs.declared.done.Done.{Done}
use Rattle.hs_workers.proofs.WorkLemmas.{gone_done, read_done}
use Rattle.hs_workers.proofs.job.read_one.Goals as goal
use Rattle.hs_workers.specs.Work.{HasDone, bench_of}

pub returns-in-Ok-Some-clause-done : goal.returns-in-Ok-Some-clause-done
returns-in-Ok-Some-clause-done g c =
    let bench = bench_of g.D.Disk.size g.D.Disk.stands g.D.Disk.faults c.args.log.now in
    subst (λ (d : Done). HasDone g.D.Disk.tells (bench c.args.disk.now) (bench c.read_entry.new.disk) d) (sym c.shown_of.ensures.value)
    (read_done g.D.Disk.tells (bench c.args.disk.now) (bench c.read_entry.new.disk) c.args.number c.in-Ok-Some.entry refl c.in-Ok-Some.ensures.calm c.read_entry.ensures.same
    (λ t l w has. sym (c.in-Ok-Some.ensures.found t l w has) ∙ c.in-Ok-Some.field-0-is))

pub returns-in-Ok-None-clause-done : goal.returns-in-Ok-None-clause-done
returns-in-Ok-None-clause-done g c =
    let bench = bench_of g.D.Disk.size g.D.Disk.stands g.D.Disk.faults c.args.log.now in
    gone_done g.D.Disk.tells (bench c.args.disk.now) (bench c.read_entry.new.disk) c.args.number refl c.in-Ok-None.ensures.calm c.read_entry.ensures.same
    (λ t l w has. sym (c.in-Ok-None.ensures.found t l w has) ∙ c.in-Ok-None.field-0-is)
