use Rattle.std.proofs.Common.{[], inr, subst}
use Rattle.hs_peerlog.proofs.StayLemmas.{seen-list}
use Rattle.hs_peerlog.specs.Opening.{IsRefusal, refusal_in}
use Rattle.hs_scrub.proofs.CopyLemmas.{append_each, past_then}
use Rattle.hs_scrub.proofs.EmptyLemmas.{calm_no_log, empty_each, emptied_ok, listed_of, no_log_not}
use Rattle.hs_side.specs.Current.{list_in}
use Rattle.hs_taking.specs.Disks.{DiskSeen, seen_as}
use Rattle.hs_scrub.proofs.emptying.empty_disk.Goals as goal

pub returns-in-Ok-clause-emptied : goal.returns-in-Ok-clause-emptied
returns-in-Ok-clause-emptied g c =
    let see : g.row.D.Denot → DiskSeen = λ disk. seen_as (g.D.Disk.size disk) (g.D.Disk.stands disk) (g.D.Disk.faults disk) in
    emptied_ok g.D.Disk.tells c.args.shape c.args.peer c.args.watch.now (see c.args.disk.now) (see c.recover.new.disk) (see c.reset_log.new.disk) c.in-Ok.ensures.calm c.reset_log.result c.reset_log.ensures.opens
    (λ told last. let l = listed_of (list_in (g.D.Disk.stands c.args.disk.now).seen) (c.in-Ok.ensures.listed told) in c.reset_log.ensures.list told (c.recover.ensures.past told last).last l.0 (c.in-Ok.ensures.list told last l.0 l.1))
    c.reset_log.ensures.calm c.reset_log.ensures.risen

pub returns-in-Ok-clause-any_moment : goal.returns-in-Ok-clause-any_moment
returns-in-Ok-clause-any_moment g c =
    λ told last list leaves.
    empty_each list (c.recover.ensures.any_moment told last list leaves)
    (c.reset_log.ensures.any_moment told (c.recover.ensures.past told last).last list
    (c.in-Ok.ensures.list told last list (seen-list (g.D.Disk.stands c.args.disk.now) list (λ side. g.met.D.Disk.stays told c.args.disk.now side) leaves)))

pub returns-in-Ok-clause-past : goal.returns-in-Ok-clause-past
returns-in-Ok-clause-past g c =
    λ told last. let p = c.recover.ensures.past told last in past_then p (c.reset_log.ensures.past told p.last)

pub returns-in-Err-NotALog-clause-emptied : goal.returns-in-Err-NotALog-clause-emptied
returns-in-Err-NotALog-clause-emptied g c =
    let see : g.row.D.Denot → DiskSeen = λ disk. seen_as (g.D.Disk.size disk) (g.D.Disk.stands disk) (g.D.Disk.faults disk) in
    emptied_ok g.D.Disk.tells c.args.shape c.args.peer c.args.watch.now (see c.args.disk.now) (see c.recover.new.disk) (see c.clear_disk.new.disk)
    (calm_no_log c.in-Err-NotALog.field-0 c.in-Err-NotALog.field-0-0 (g.D.Disk.faults c.args.disk.now) (g.D.Disk.faults c.recover.new.disk) c.in-Err-NotALog.field-0-is c.in-Err-NotALog.ensures.calm) c.clear_disk.result c.clear_disk.ensures.opens
    (λ told last. c.clear_disk.ensures.list told (c.recover.ensures.past told last).last) c.clear_disk.ensures.calm c.clear_disk.ensures.risen

pub returns-in-Err-NotALog-clause-any_moment : goal.returns-in-Err-NotALog-clause-any_moment
returns-in-Err-NotALog-clause-any_moment g c =
    λ told last list leaves.
    absurd (no_log_not c.args.shape c.args.peer c.in-Err-NotALog.field-0-0 (g.D.Disk.stands c.args.disk.now) list (λ side. g.met.D.Disk.stays told c.args.disk.now side) leaves
    (subst (λ fault. IsRefusal fault (refusal_in c.args.shape c.args.peer (g.D.Disk.stands c.args.disk.now).seen)) c.in-Err-NotALog.field-0-is (c.in-Err-NotALog.ensures.refused told)))

pub returns-in-Err-NotALog-clause-past : goal.returns-in-Err-NotALog-clause-past
returns-in-Err-NotALog-clause-past g c =
    λ told last. let p = c.recover.ensures.past told last in past_then p (c.clear_disk.ensures.past told p.last)

pub returns-in-Err-WrongShape-clause-emptied : goal.returns-in-Err-WrongShape-clause-emptied
returns-in-Err-WrongShape-clause-emptied g c =
    inr (λ told. (c.in-Err-WrongShape.field-0-0, (subst (λ fault. IsRefusal fault (refusal_in c.args.shape c.args.peer (g.D.Disk.stands c.args.disk.now).seen)) c.in-Err-WrongShape.field-0-is (c.in-Err-WrongShape.ensures.refused told))))

pub returns-in-Err-WrongShape-clause-any_moment : goal.returns-in-Err-WrongShape-clause-any_moment
returns-in-Err-WrongShape-clause-any_moment g c =
    λ told last list leaves. append_each list [] (c.recover.ensures.any_moment told last list leaves)

pub returns-in-Err-Disk-clause-any_moment : goal.returns-in-Err-Disk-clause-any_moment
returns-in-Err-Disk-clause-any_moment g c =
    λ told last list leaves. append_each list [] (c.recover.ensures.any_moment told last list leaves)

pub returns-in-Err-NoMemory-clause-any_moment : goal.returns-in-Err-NoMemory-clause-any_moment
returns-in-Err-NoMemory-clause-any_moment g c =
    λ told last list leaves. append_each list [] (c.recover.ensures.any_moment told last list leaves)
