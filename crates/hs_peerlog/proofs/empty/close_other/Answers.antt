use Rattle.std.proofs.Common.{◌∙◌, ap, subst}
use Rattle.hs_ports.specs.declared.disk.Side.{Side}
use Rattle.hs_ports.specs.Disk.{Untouched, other_side}
use Rattle.hs_peerlog.proofs.ResetLemmas.{gone-if, other-closed, twice}
use Rattle.hs_peerlog.proofs.ShownLemmas.{side-past}
use Rattle.hs_peerlog.proofs.empty.close_other.Goals as goal

pub returns-clause-gone : goal.returns-clause-gone
returns-clause-gone g c = λ told beside.
    gone-if c.close.result c.args.side (g.D.Disk.stands c.args.disk.now) (g.D.Disk.stands c.close.new.disk) beside
    (rw c.other_side.ensures at (c.close.ensures.left told)) (rw c.other_side.ensures at (c.close.ensures.closed told))

pub returns-clause-other : goal.returns-clause-other
returns-clause-other g c = λ told.
    subst (λ (s : Side). Untouched s (g.D.Disk.stands c.args.disk.now) (g.D.Disk.stands c.close.new.disk)) (ap (λ s. other_side s) c.other_side.ensures ∙ twice c.args.side) (c.close.ensures.other told)

pub returns-clause-shown : goal.returns-clause-shown
returns-clause-shown g c = λ told last sole.
    other-closed c.args.side sole (λ s. g.met.D.Disk.stays told c.args.disk.now s) (rw c.other_side.ensures at (c.close.ensures.any_moment told last)) last (g.met.D.Disk.since told c.args.disk.now)

pub returns-clause-past : goal.returns-clause-past
returns-clause-past g c = λ told last. side-past (c.close.ensures.any_moment told last)
