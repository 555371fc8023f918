use Rattle.std.proofs.Common.{◌∙◌, ap}
use Rattle.std.proofs.lemmas.Result.{err_from_is_err_and}
use Rattle.std.specs.Prelude.{Err}
use Rattle.hs_asker.proofs.DrivenLemmas.{drives_as, drives_on}
use Rattle.hs_cluster.specs.declared.fault.ClusterFault.{ClusterFault}
use Rattle.hs_asker.proofs.work.Work.drive_once.Goals as goal

pub returns-in_err-drive_until-clause-drives : goal.returns-in_err-drive_until-clause-drives
returns-in_err-drive_until-clause-drives g c =
    let p = err_from_is_err_and c.from_residual.result c.from_residual.ensures.1 in
    drives_as g.D.Disk.tells (g.A.Addresser.name c.args.naming.now) _ _ _ _ _ _ (p.1 ∙ ap (λ (e : ClusterFault). Err e) p.2) c.in_err-drive_until.ensures.drives

pub returns-clause-drives : goal.returns-clause-drives
returns-clause-drives g c = drives_on g.D.Disk.tells (g.A.Addresser.name c.args.naming.now) _ _ _ _ _ _ _ c.in_ok-drive_until.ensures.drives c.drive_each.ensures.drives
