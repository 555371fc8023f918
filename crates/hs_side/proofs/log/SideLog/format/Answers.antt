use Rattle.std.proofs.Common.{refl}
use Rattle.hs_ports.proofs.MomentLemmas.{then_run}
use Rattle.hs_side.proofs.BlankLemmas.{empty_stands}
use Rattle.hs_side.proofs.log.SideLog.format.Goals as goal

pub returns-in_err-shut-clause-any_moment : goal.returns-in_err-shut-clause-any_moment
returns-in_err-shut-clause-any_moment g c told last = c.shut.ensures.any_moment c.args.header c.args.generation told last

pub returns-in_err-trim-clause-any_moment : goal.returns-in_err-trim-clause-any_moment
returns-in_err-trim-clause-any_moment g c told last =
    let one = c.shut.ensures.any_moment c.args.header c.args.generation told last in
    then_run (c.trim.ensures.any_moment c.args.header c.args.generation told one.last) one

pub returns-in_err-write_head-clause-any_moment : goal.returns-in_err-write_head-clause-any_moment
returns-in_err-write_head-clause-any_moment g c told last =
    let one = c.shut.ensures.any_moment c.args.header c.args.generation told last in
    let two = c.trim.ensures.any_moment c.args.header c.args.generation told one.last in
    then_run (c.write_head.ensures.any_moment told two.last) (then_run two one)

pub open_gate-requires-clause-head : goal.open_gate-requires-clause-head
open_gate-requires-clause-head g c told = (_, c.in_ok-write_head.ensures.seen told)

pub returns-in_err-open_gate-clause-any_moment : goal.returns-in_err-open_gate-clause-any_moment
returns-in_err-open_gate-clause-any_moment g c told last =
    let one = c.shut.ensures.any_moment c.args.header c.args.generation told last in
    let two = c.trim.ensures.any_moment c.args.header c.args.generation told one.last in
    let three = c.write_head.ensures.any_moment told two.last in
    then_run (c.open_gate.ensures.any_moment told three.last) (then_run three (then_run two one))

pub returns-clause-stands : goal.returns-clause-stands
returns-clause-stands g c =
    empty_stands g.D.Disk.tells _ c.args.header c.args.generation _ (g.D.Disk.stands c.open_gate.new.disk) refl c.new.ensures.items refl refl c.ranges.generation.fits
    c.in_ok-open_gate.ensures.size c.in_ok-open_gate.ensures.seen c.in_ok-open_gate.ensures.settled

pub returns-clause-any_moment : goal.returns-clause-any_moment
returns-clause-any_moment g c told last =
    let one = c.shut.ensures.any_moment c.args.header c.args.generation told last in
    let two = c.trim.ensures.any_moment c.args.header c.args.generation told one.last in
    let three = c.write_head.ensures.any_moment told two.last in
    then_run (c.open_gate.ensures.any_moment told three.last) (then_run three (then_run two one))
