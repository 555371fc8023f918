use Rattle.std.proofs.Common.{subst}
use Rattle.hs_peerlog.specs.Opening.{IsRefusal, refusal_in}
use Rattle.hs_taking.proofs.ViewLemmas.{no_log_viewed}
use Rattle.hs_taking.specs.Disks.{seen_as}
use Rattle.hs_taking.proofs.viewing.view_one.Goals as goal

pub returns-in-Err-NotALog-clause-viewed : goal.returns-in-Err-NotALog-clause-viewed
returns-in-Err-NotALog-clause-viewed g c = no_log_viewed g.D.Disk.tells c.args.shape c.args.peer c.in-Err-NotALog.field-0-0
    (seen_as (g.D.Disk.size c.args.disk.now) (g.D.Disk.stands c.args.disk.now) (g.D.Disk.faults c.args.disk.now)) (seen_as (g.D.Disk.size c.read.new.disk) (g.D.Disk.stands c.read.new.disk) (g.D.Disk.faults c.read.new.disk))
    (λ told. subst (λ fault. IsRefusal fault (refusal_in c.args.shape c.args.peer (g.D.Disk.stands c.args.disk.now).seen)) c.in-Err-NotALog.field-0-is (c.in-Err-NotALog.ensures.refused told))
