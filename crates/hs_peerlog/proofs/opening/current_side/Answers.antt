use Rattle.hs_peerlog.proofs.OpenLemmas.{both-settled, one-call, then-calls}
use Rattle.hs_peerlog.proofs.opening.current_side.Goals as goal

pub returns-in_err-one-clause-any_moment : goal.returns-in_err-one-clause-any_moment
returns-in_err-one-clause-any_moment g c = λ told last.
    let one = c.glance.ensures.any_moment told last in
    let two = c.glance-2.ensures.any_moment told one.last in
    then-calls (one-call one.last (g.met.D.Disk.since told c.glance.new.disk) two) (one-call last (g.met.D.Disk.since told c.args.disk.now) one)

pub returns-clause-any_moment : goal.returns-clause-any_moment
returns-clause-any_moment g c = λ told last.
    let one = c.glance.ensures.any_moment told last in
    let two = c.glance-2.ensures.any_moment told one.last in
    then-calls (one-call one.last (g.met.D.Disk.since told c.glance.new.disk) two) (one-call last (g.met.D.Disk.since told c.args.disk.now) one)

pub returns-clause-durable : goal.returns-clause-durable
returns-clause-durable g c = λ told. both-settled (g.D.Disk.stands c.args.disk.now) (g.D.Disk.stands c.glance.new.disk) (g.D.Disk.stands c.glance-2.new.disk)
    (c.in_ok-zero.ensures.durable told) (c.glance.ensures.other told) (c.in_ok-one.ensures.durable told) (c.glance-2.ensures.other told)
