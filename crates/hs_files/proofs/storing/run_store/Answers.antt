use Rattle.std.proofs.Common.{subst, refl, ℕ, List, map}
use Rattle.hs_ports.specs.Objects.{handed}
use Rattle.hs_promise.specs.Run.{ran_of}
use Rattle.hs_files.proofs.StoreLemmas.{unbegun}
use Rattle.hs_files.specs.Stored.{StoresFile}
use Rattle.hs_files.proofs.storing.run_store.Goals as goal

pub returns-in_default-clause-stores : goal.returns-in_default-clause-stores
returns-in_default-clause-stores g c = λ sink. unbegun _ _ _ _ _ (record { kept = c.closed.ensures.kept; stored = c.closed.ensures.stored }) (record {
  ending = c.closed.ensures.status;
  unanswered = record { journal = c.closed.ensures.journal; refused = c.closed.ensures.refused; course = c.closed.ensures.course; line = c.closed.ensures.line };
  same = refl;
})

pub returns-clause-stores : goal.returns-clause-stores
returns-clause-stores g c = λ sink. subst (λ (key : List ℕ). StoresFile g.D.Disk.tells (g.A.Addresser.name c.args.naming.now) c.args.shape key
    (ran_of c.store_under.result
    (handed c.args.watch.now (map (λ disk. (g.D.Disk.stands disk, g.D.Disk.faults disk)) c.args.disks.now.items) sink (g.S.Source.left c.args.source.now, g.S.Source.faults c.args.source.now))
    (handed c.store_under.new.watch (map (λ disk. (g.D.Disk.stands disk, g.D.Disk.faults disk)) c.store_under.new.disks.items) sink (g.S.Source.left c.store_under.new.source, g.S.Source.faults c.store_under.new.source))))
    c.in-Ok.ensures (c.store_under.ensures.stores sink)
