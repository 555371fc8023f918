use Rattle.std.proofs.Common.{◌≡◌, ap, sym, subst, []}
use Rattle.hs_ports.specs.declared.disk.Side.{Side}
use Rattle.hs_side.specs.Standing.{SideState}
use Rattle.hs_peerlog.specs.Images.{IsSole}
use Rattle.hs_peerlog.specs.Lists.{HasList, IsBlankBeside}
use Rattle.hs_peerlog.proofs.MakeLemmas.{formatted}
use Rattle.hs_peerlog.proofs.ResetLemmas.{empty-leaves, empty-sole, gone-stays, side-empty}
use Rattle.hs_peerlog.proofs.ShownLemmas.{side-past}
use Rattle.hs_peerlog.proofs.empty.write_empty.Goals as goal

pub returns-in_err-log-clause-shown : goal.returns-in_err-log-clause-shown
returns-in_err-log-clause-shown g c = λ told last gone.
    side-empty c.args.side c.args.header c.args.generation gone (c.format.ensures.any_moment told last) last (g.met.D.Disk.since told c.args.disk.now)

pub returns-in_err-log-clause-past : goal.returns-in_err-log-clause-past
returns-in_err-log-clause-past g c = λ told last. side-past (c.format.ensures.any_moment told last)

pub returns-clause-past : goal.returns-clause-past
returns-clause-past g c = λ told last. side-past (c.format.ensures.any_moment told last)

pub returns-clause-shown : goal.returns-clause-shown
returns-clause-shown g c = λ told last gone.
    side-empty c.args.side c.args.header c.args.generation gone (c.format.ensures.any_moment told last) last (g.met.D.Disk.since told c.args.disk.now)

pub returns-clause-list : goal.returns-clause-list
returns-clause-list g c = λ told.
    let log = c.in_ok-log.log in
    let side : log.side ≡ c.args.side = ap (λ (k : SideState). k.side) c.in_ok-log.ensures.value in
    subst (λ (s : Side). HasList log.places ((g.D.Disk.stands c.format.new.disk).seen s) []) (sym side)
    (formatted log ((g.D.Disk.stands c.format.new.disk).seen c.args.side) c.args.header c.args.generation c.ranges.generation.fits (ap (λ (k : SideState). k.places) c.in_ok-log.ensures.value) (c.in_ok-log.ensures.written told))

pub returns-clause-sole : goal.returns-clause-sole
returns-clause-sole g c = λ told last gone.
    let run = c.format.ensures.any_moment told last in
    let there = gone-stays c.args.side (g.D.Disk.stands c.args.disk.now) (g.D.Disk.stands c.format.new.disk) run.other gone in
    subst (λ (s : Side). IsSole s (g.D.Disk.stands c.format.new.disk)) (sym (ap (λ (k : SideState). k.side) c.in_ok-log.ensures.value))
    (empty-sole c.args.side (g.D.Disk.stands c.format.new.disk) c.args.header c.args.generation c.ranges.generation.fits there (c.in_ok-log.ensures.durable told))

pub returns-clause-leaves : goal.returns-clause-leaves
returns-clause-leaves g c = λ told last gone.
    let run = c.format.ensures.any_moment told last in
    let there = gone-stays c.args.side (g.D.Disk.stands c.args.disk.now) (g.D.Disk.stands c.format.new.disk) run.other gone in
    empty-leaves c.args.side (g.D.Disk.stands c.format.new.disk) c.args.header c.args.generation c.ranges.generation.fits there (c.in_ok-log.ensures.durable told)

pub returns-clause-beside : goal.returns-clause-beside
returns-clause-beside g c = λ told last gone.
    let run = c.format.ensures.any_moment told last in
    let there = gone-stays c.args.side (g.D.Disk.stands c.args.disk.now) (g.D.Disk.stands c.format.new.disk) run.other gone in
    subst (λ (s : Side). IsBlankBeside s (g.D.Disk.stands c.format.new.disk)) (sym (ap (λ (k : SideState). k.side) c.in_ok-log.ensures.value)) (λ blank. there)
