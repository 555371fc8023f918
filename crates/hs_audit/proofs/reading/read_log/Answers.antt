use Rattle.std.proofs.Common.{ap, subst}
use Rattle.std.specs.Prelude.{Err, IfSome}
use Rattle.hs_audit.proofs.ReadLemmas.{loaded_log, of_its_list}
use Rattle.hs_memory.specs.Forget.{apply_all}
use Rattle.hs_peerlog.specs.Caused.{IsOutside}
use Rattle.hs_peerlog.specs.declared.fault.LogFault.{LogFault}
use Rattle.hs_shard.specs.Facts.{empty_catalogue}
use Rattle.hs_taking.specs.Disks.{DiskSeen, seen_as}
use Rattle.hs_taking.specs.Viewed.{IsViewOf}
use Rattle.hs_audit.proofs.reading.read_log.Goals as goal

pub returns-in-Ok-clause-log : goal.returns-in-Ok-clause-log
returns-in-Ok-clause-log g c =
    let disk : DiskSeen = seen_as (g.D.Disk.size c.args.disk.now) (g.D.Disk.stands c.args.disk.now) (g.D.Disk.faults c.args.disk.now) in
    let viewed = subst (λ v. IfSome v (IsViewOf g.D.Disk.tells c.args.shape c.args.peer disk)) c.in-Some.is c.requires.viewed in
    loaded_log g.D.Disk.tells (apply_all (g.A.Addresser.name c.args.naming.now) (empty_catalogue c.args.shape c.args.shard)) c.args.shape c.args.peer disk c.in-Some.seen c.in-Ok.loaded viewed c.in-Ok.ensures.loaded

pub returns-in-Err-Disk-clause-failed : goal.returns-in-Err-Disk-clause-failed
returns-in-Err-Disk-clause-failed g c = λ e told. c.in-Err-Disk.ensures.cause.failed (ap (λ (x : LogFault). Err x) c.in-Err-Disk.field-0-is)

pub returns-in-Err-NotALog-clause-failed : goal.returns-in-Err-NotALog-clause-failed
returns-in-Err-NotALog-clause-failed g c = λ e told.
    let disk : DiskSeen = seen_as (g.D.Disk.size c.args.disk.now) (g.D.Disk.stands c.args.disk.now) (g.D.Disk.faults c.args.disk.now) in
    let viewed = subst (λ v. IfSome v (IsViewOf g.D.Disk.tells c.args.shape c.args.peer disk)) c.in-Some.is c.requires.viewed in
    absurd (of_its_list g.D.Disk.tells c.args.shape c.args.peer disk c.in-Some.seen viewed told ⊥ (λ list has. subst (λ (x : LogFault). IsOutside x) c.in-Err-NotALog.field-0-is (c.in-Err-NotALog.ensures.refused told list has)))

pub returns-in-Err-WrongShape-clause-failed : goal.returns-in-Err-WrongShape-clause-failed
returns-in-Err-WrongShape-clause-failed g c = λ e told.
    let disk : DiskSeen = seen_as (g.D.Disk.size c.args.disk.now) (g.D.Disk.stands c.args.disk.now) (g.D.Disk.faults c.args.disk.now) in
    let viewed = subst (λ v. IfSome v (IsViewOf g.D.Disk.tells c.args.shape c.args.peer disk)) c.in-Some.is c.requires.viewed in
    absurd (of_its_list g.D.Disk.tells c.args.shape c.args.peer disk c.in-Some.seen viewed told ⊥ (λ list has. subst (λ (x : LogFault). IsOutside x) c.in-Err-WrongShape.field-0-is (c.in-Err-WrongShape.ensures.refused told list has)))
