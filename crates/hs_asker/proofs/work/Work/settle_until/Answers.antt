use Rattle.std.proofs.Common.{◌∙◌, ap, arith, refl}
use Rattle.std.proofs.lemmas.Result.{err_from_is_err_and}
use Rattle.std.specs.Prelude.{Err}
use Rattle.hs_asker.proofs.DrivenLemmas.{drives_as, drives_nothing, drives_on, drives_short, journal_driven, whole_drives}
use Rattle.hs_cluster.specs.declared.fault.ClusterFault.{ClusterFault}
use Rattle.hs_asker.proofs.work.Work.settle_until.Goals as goal

pub loop-step-init : goal.loop-step-init
loop-step-init g c = record { drives = drives_nothing g.D.Disk.tells (g.A.Addresser.name c.args.naming.now) _ _; ready = c.requires.ready; some = c.requires.some; count = refl; ended = refl }

pub loop-step-preserved : goal.loop-step-preserved
loop-step-preserved g c =
    let inv = c.loop-step.invariant in
    record {
      drives = drives_on g.D.Disk.tells (g.A.Addresser.name c.args.naming.now) _ _ _ _ _ _ _ inv.drives c.in_ok-drive_line.ensures.drives;
      ready = c.in_ok-drive_line.ensures.ready;
      some = (let d = c.in_ok-drive_line.ensures.drives in
          let grows = journal_driven g.D.Disk.tells (g.A.Addresser.name c.args.naming.now) _ _ d.said (whole_drives g.D.Disk.tells (g.A.Addresser.name c.args.naming.now) _ _ d.said d.driven) in
          let low = inv.some in
          omega (arith, low, grows));
      count = c.drive_line.ensures.count ∙ inv.count;
      ended = c.drive_line.ensures.ended ∙ inv.ended;
    }

pub returns-in_err-drive_line-clause-drives : goal.returns-in_err-drive_line-clause-drives
returns-in_err-drive_line-clause-drives g c =
    let p = err_from_is_err_and c.from_residual.result c.from_residual.ensures.1 in
    drives_as g.D.Disk.tells (g.A.Addresser.name c.args.naming.now) _ _ _ _ _ _ (p.1 ∙ ap (λ (e : ClusterFault). Err e) p.2)
    (drives_on g.D.Disk.tells (g.A.Addresser.name c.args.naming.now) _ _ _ _ _ _ _ c.loop-step.invariant.drives c.in_err-drive_line.ensures.drives)

pub returns-clause-drives : goal.returns-clause-drives
returns-clause-drives g c = drives_on g.D.Disk.tells (g.A.Addresser.name c.args.naming.now) _ _ _ _ _ _ _ c.loop-step.invariant.drives (drives_short g.D.Disk.tells (g.A.Addresser.name c.args.naming.now) _ _)
