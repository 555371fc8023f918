use Rattle.hs_side.proofs.BlankLemmas.{blank_stays, blank_shut}
use Rattle.hs_side.proofs.format.shut.Goals as goal

pub returns-in_err-is_shut-clause-any_moment : goal.returns-in_err-is_shut-clause-any_moment
returns-in_err-is_shut-clause-any_moment g c header generation told last =
    let disk = c.args.disk.now in
    blank_stays header generation _ c.args.side (g.D.Disk.stands disk) _ (c.is_shut.ensures.same told) (c.requires told) last (g.met.D.Disk.since told disk c.args.side)

pub returns-then-branch-clause-any_moment : goal.returns-then-branch-clause-any_moment
returns-then-branch-clause-any_moment g c header generation told last =
    let disk = c.args.disk.now in
    blank_stays header generation _ c.args.side (g.D.Disk.stands disk) _ (c.is_shut.ensures.same told) (c.requires told) last (g.met.D.Disk.since told disk c.args.side)

pub returns-in_err-put_and_settle-clause-any_moment : goal.returns-in_err-put_and_settle-clause-any_moment
returns-in_err-put_and_settle-clause-any_moment g c header generation told last =
    let disk = c.args.disk.now in
    blank_shut header generation _ _ c.args.side (g.D.Disk.stands disk) (g.D.Disk.stands c.is_shut.new.disk) _ (c.is_shut.ensures.same told) (c.requires told) (g.met.D.Disk.stays told disk c.args.side)
    (c.in_ok-is_shut.ensures.opens told c.if-branch.false) (c.put_and_settle.ensures.any_moment told (rw (c.is_shut.ensures.same told) last))

pub returns-clause-any_moment : goal.returns-clause-any_moment
returns-clause-any_moment g c header generation told last =
    let disk = c.args.disk.now in
    blank_shut header generation _ _ c.args.side (g.D.Disk.stands disk) (g.D.Disk.stands c.is_shut.new.disk) _ (c.is_shut.ensures.same told) (c.requires told) (g.met.D.Disk.stays told disk c.args.side)
    (c.in_ok-is_shut.ensures.opens told c.if-branch.false) (c.put_and_settle.ensures.any_moment told (rw (c.is_shut.ensures.same told) last))
