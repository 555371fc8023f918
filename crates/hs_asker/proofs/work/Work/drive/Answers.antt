use Rattle.std.proofs.Common.{◌∙◌, ap, arith}
use Rattle.std.proofs.lemmas.Result.{err_from_is_err_and}
use Rattle.std.specs.Prelude.{Err}
use Rattle.hs_asker.proofs.DrivenLemmas.{drives_as, drives_on, journal_driven, whole_drives}
use Rattle.hs_cluster.specs.declared.fault.ClusterFault.{ClusterFault}
use Rattle.hs_asker.proofs.work.Work.drive.Goals as goal

pub settle_until-requires-clause-some : goal.settle_until-requires-clause-some
settle_until-requires-clause-some g c =
    let d = c.in_ok-drive_once.ensures.drives in
    let grows = journal_driven g.D.Disk.tells (g.A.Addresser.name c.args.naming.now) _ _ d.said (whole_drives g.D.Disk.tells (g.A.Addresser.name c.args.naming.now) _ _ d.said d.driven) in
    let low = c.requires.some in
    omega (arith, low, grows)

pub returns-in_err-drive_once-clause-drives : goal.returns-in_err-drive_once-clause-drives
returns-in_err-drive_once-clause-drives g c =
    let p = err_from_is_err_and c.from_residual.result c.from_residual.ensures.1 in
    drives_as g.D.Disk.tells (g.A.Addresser.name c.args.naming.now) _ _ _ _ _ _ (p.1 ∙ ap (λ (e : ClusterFault). Err e) p.2) c.in_err-drive_once.ensures.drives

pub returns-clause-drives : goal.returns-clause-drives
returns-clause-drives g c = drives_on g.D.Disk.tells (g.A.Addresser.name c.args.naming.now) _ _ _ _ _ _ _ c.in_ok-drive_once.ensures.drives c.settle_until.ensures.drives
