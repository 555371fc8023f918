use Rattle.std.proofs.Common.{subst, refl, ℕ, List, map}
use Rattle.hs_ports.specs.Objects.{handed}
use Rattle.hs_promise.specs.Run.{ran_of}
use Rattle.hs_files.proofs.CopyLemmas.{unbegun}
use Rattle.hs_files.specs.Copied.{CopiesRoot}
use Rattle.hs_files.proofs.copying.run_copy.Goals as goal

pub returns-in_default-clause-copies : goal.returns-in_default-clause-copies
returns-in_default-clause-copies g c = λ source. unbegun _ _ _ _ _ _ (record { kept = c.closed.ensures.kept; stored = c.closed.ensures.stored }) (record {
  ending = c.closed.ensures.status;
  unanswered = record { journal = c.closed.ensures.journal; refused = c.closed.ensures.refused; course = c.closed.ensures.course; line = c.closed.ensures.line };
  same = refl;
})

pub returns-clause-copies : goal.returns-clause-copies
returns-clause-copies g c = λ source. subst (λ (key : List ℕ). CopiesRoot g.D.Disk.tells (g.A.Addresser.name c.args.naming.now) (record { first = c.args.shape; second = c.args.second }) key c.args.every
    (ran_of c.copy_under.result
    (handed c.args.watch.now (map (λ disk. (g.D.Disk.stands disk, g.D.Disk.faults disk)) c.args.disks.now.items) (g.K.Sink.got c.args.sink.now, g.K.Sink.faults c.args.sink.now) source)
    (handed c.copy_under.new.watch (map (λ disk. (g.D.Disk.stands disk, g.D.Disk.faults disk)) c.copy_under.new.disks.items) (g.K.Sink.got c.copy_under.new.sink, g.K.Sink.faults c.copy_under.new.sink) source)))
    c.in-Ok.ensures (c.copy_under.ensures.copies source)
