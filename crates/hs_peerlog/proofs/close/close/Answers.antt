use Rattle.std.proofs.Common.{◌≡◌, ◌≤◌, false, sym, subst}
use Rattle.hs_ports.specs.Disk.{Standing}
use Rattle.hs_side.specs.Reading.{is_blank}
use Rattle.hs_peerlog.proofs.CloseLemmas.{close_writes}
use Rattle.hs_peerlog.proofs.close.close.Goals as goal

pub returns-in_err-write_gate-clause-any_moment : goal.returns-in_err-write_gate-clause-any_moment
returns-in_err-write_gate-clause-any_moment g c = λ told last.
    let old = g.D.Disk.stands c.args.disk.now in
    let mid = g.D.Disk.stands c.is_begun.new.disk in
    let same : mid ≡ old = c.is_begun.ensures.same told in
    let full : is_blank (old.seen c.args.side) ≡ false = c.in_ok-begun.ensures.begun told c.if-not-begun.false in
    close_writes c.args.watch.now c.write_gate.new.watch c.args.side old mid (g.D.Disk.stands c.write_gate.new.disk) same full (g.met.D.Disk.stays told c.args.disk.now c.args.side)
    (c.write_gate.ensures.any_moment told (subst (λ (d : Standing). d.last ≤ c.args.watch.now) (sym same) last))

pub returns-clause-any_moment : goal.returns-clause-any_moment
returns-clause-any_moment g c = λ told last.
    let old = g.D.Disk.stands c.args.disk.now in
    let mid = g.D.Disk.stands c.is_begun.new.disk in
    let same : mid ≡ old = c.is_begun.ensures.same told in
    let full : is_blank (old.seen c.args.side) ≡ false = c.in_ok-begun.ensures.begun told c.if-not-begun.false in
    close_writes c.args.watch.now c.write_gate.new.watch c.args.side old mid (g.D.Disk.stands c.write_gate.new.disk) same full (g.met.D.Disk.stays told c.args.disk.now c.args.side)
    (c.write_gate.ensures.any_moment told (subst (λ (d : Standing). d.last ≤ c.args.watch.now) (sym same) last))
