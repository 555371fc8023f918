use Rattle.std.proofs.Common.{◌≡◌, ◌∙◌, ap, sym, refl}
use Rattle.hs_ports.specs.Disk.{Standing}
use Rattle.hs_side.specs.Current.{current, header_in}
use Rattle.hs_side.specs.Reading.{log_of}
use Rattle.hs_peerlog.specs.Opening.{refused_head}
use Rattle.hs_peerlog.proofs.HeaderLemmas.{open-head}
use Rattle.hs_peerlog.proofs.OpenLemmas.{open-calls, open-value}
use Rattle.hs_peerlog.proofs.opening.open_current.Goals as goal

pub returns-in_err-opened-clause-any_moment : goal.returns-in_err-opened-clause-any_moment
returns-in_err-opened-clause-any_moment g c = λ told last.
    open-calls (c.current_side.ensures.any_moment told last) (c.check_head.ensures.same told) (g.met.D.Disk.since told c.check_head.new.disk) (c.open_ranked.ensures.any_moment told) refl

pub returns-clause-value : goal.returns-clause-value
returns-clause-value g c = λ told.
    let seen = (g.D.Disk.stands c.args.disk.now).seen in
    let side : c.in-Ok.side ≡ current seen = c.in-Ok.ensures.value told in
    let bytes : (g.D.Disk.stands c.check_head.new.disk).seen c.in-Ok.side ≡ seen (current seen) =
    ap (λ (d : Standing). d.seen c.in-Ok.side) (c.check_head.ensures.same told) ∙ c.current_side.ensures.same told c.in-Ok.side ∙ ap (λ s. seen s) side in
    let exact = c.in_ok-opened.ensures.exact told in
    open-value seen c.in_ok-opened.opened.0 c.in_ok-opened.opened.1 exact.0 (ap (λ b. log_of b) (sym bytes) ∙ exact.1) exact.2 exact.3 (c.in_ok-opened.ensures.side ∙ side)

pub returns-clause-head : goal.returns-clause-head
returns-clause-head g c = λ told.
    let seen = (g.D.Disk.stands c.args.disk.now).seen in
    let side : c.in-Ok.side ≡ current seen = c.in-Ok.ensures.value told in
    let bytes : (g.D.Disk.stands c.check_head.new.disk).seen c.in-Ok.side ≡ seen (current seen) =
    ap (λ (d : Standing). d.seen c.in-Ok.side) (c.check_head.ensures.same told) ∙ c.current_side.ensures.same told c.in-Ok.side ∙ ap (λ s. seen s) side in
    let before : (g.D.Disk.stands c.current_side.new.disk).seen c.in-Ok.side ≡ seen (current seen) = c.current_side.ensures.same told c.in-Ok.side ∙ ap (λ s. seen s) side in
    let exact = c.in_ok-opened.ensures.exact told in
    open-head c.args.shape c.args.peer seen c.in_ok-opened.opened.0 exact.0 (ap (λ b. refused_head c.args.shape c.args.peer (header_in b)) (sym before) ∙ c.in-Ok-check_head.ensures.value told) (ap (λ b. log_of b) (sym bytes) ∙ exact.1) exact.2

pub returns-clause-any_moment : goal.returns-clause-any_moment
returns-clause-any_moment g c = λ told last.
    open-calls (c.current_side.ensures.any_moment told last) (c.check_head.ensures.same told) (g.met.D.Disk.since told c.check_head.new.disk) (c.open_ranked.ensures.any_moment told) refl
