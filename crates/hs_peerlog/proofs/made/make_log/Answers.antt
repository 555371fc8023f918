use Rattle.std.proofs.Common.{◌≡◌, ◌∙◌, arith, ap, sym, subst, None}
use Rattle.hs_side.specs.Standing.{SideState}
use Rattle.hs_peerlog.specs.Lists.{HasList}
use Rattle.hs_peerlog.proofs.MakeLemmas.{none-if, blank-side, alone-shown, first-shown, formatted}
use Rattle.hs_peerlog.proofs.made.make_log.Goals as goal

pub returns-then-is_some-clause-shown : goal.returns-then-is_some-clause-shown
returns-then-is_some-clause-shown g c = λ told last alone. alone-shown c.args.log.side (g.D.Disk.stands c.args.disk.now) c.args.watch.now c.args.header last (g.met.D.Disk.since told c.args.disk.now) alone

pub returns-clause-list : goal.returns-clause-list
returns-clause-list g c = λ told list opened.
    let made = c.in_ok-made.made in
    let none : c.args.log.head ≡ None = none-if c.args.log.head c.generation.result c.generation.ensures.some (sym c.is_some.ensures ∙ c.if-is_some.false) in
    subst (λ es. HasList made.places ((g.D.Disk.stands c.format.new.disk).seen c.args.log.side) es) (sym (opened.blank none))
    (formatted made ((g.D.Disk.stands c.format.new.disk).seen c.args.log.side) c.args.header 1 (omega arith) (ap (λ (k : SideState). k.places) c.in_ok-made.ensures.value)
    (ap (λ s. (g.D.Disk.stands c.format.new.disk).seen s) (sym c.side.ensures) ∙ c.in_ok-made.ensures.written told))

pub returns-in_err-made-clause-shown : goal.returns-in_err-made-clause-shown
returns-in_err-made-clause-shown g c = λ told last alone.
    let none : c.args.log.head ≡ None = none-if c.args.log.head c.generation.result c.generation.ensures.some (sym c.is_some.ensures ∙ c.if-is_some.false) in
    let blank = blank-side g.D.Disk.tells c.args.log (g.D.Disk.size c.args.disk.now c.args.log.side) (g.D.Disk.stands c.args.disk.now) c.requires.stands told none in
    first-shown c.args.header (rw c.side.ensures at (c.format.ensures.any_moment told last)) last (g.met.D.Disk.since told c.args.disk.now) alone blank

pub returns-clause-shown : goal.returns-clause-shown
returns-clause-shown g c = λ told last alone.
    let none : c.args.log.head ≡ None = none-if c.args.log.head c.generation.result c.generation.ensures.some (sym c.is_some.ensures ∙ c.if-is_some.false) in
    let blank = blank-side g.D.Disk.tells c.args.log (g.D.Disk.size c.args.disk.now c.args.log.side) (g.D.Disk.stands c.args.disk.now) c.requires.stands told none in
    first-shown c.args.header (rw c.side.ensures at (c.format.ensures.any_moment told last)) last (g.met.D.Disk.since told c.args.disk.now) alone blank

pub returns-clause-places : goal.returns-clause-places
returns-clause-places g c =
    let none : c.args.log.head ≡ None = none-if c.args.log.head c.generation.result c.generation.ensures.some (sym c.is_some.ensures ∙ c.if-is_some.false) in
    ap (λ (k : SideState). k.places) c.in_ok-made.ensures.value ∙ sym (c.requires.empty none)
