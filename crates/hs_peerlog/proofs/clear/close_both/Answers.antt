use Rattle.std.proofs.Common.{◌∙◌, ap, sym, subst, inl, inr}
use Rattle.hs_ports.specs.Disk.{settled}
use Rattle.hs_side.specs.Giving.{IsBlankEverywhere}
use Rattle.hs_peerlog.proofs.ImageLemmas.{current-same, two-sides}
use Rattle.hs_peerlog.proofs.ResetLemmas.{alone-beside, gone-stays, other-headed, own-beside, own-headed, read-headed}
use Rattle.hs_peerlog.proofs.ShownLemmas.{all-past, then-past}
use Rattle.hs_peerlog.proofs.StayLemmas.{alone-sole}
use Rattle.hs_peerlog.specs.Images.{IsAlone}
use Rattle.hs_peerlog.proofs.clear.close_both.Goals as goal

pub returns-in-Err-clause-shown : goal.returns-in-Err-clause-shown
returns-in-Err-clause-shown g c = λ header told last leaves. read-headed header leaves (c.current_side.ensures.any_moment told last)

pub returns-in-Err-clause-past : goal.returns-in-Err-clause-past
returns-in-Err-clause-past g c = λ told last. all-past (c.current_side.ensures.any_moment told last)

pub returns-in_err-close_other-clause-shown : goal.returns-in_err-close_other-clause-shown
returns-in_err-close_other-clause-shown g c = λ header told last leaves.
    let own = c.in-Ok.side in
    let a = g.D.Disk.stands c.args.disk.now in
    let b = g.D.Disk.stands c.current_side.new.disk in
    let alone : IsAlone own b = record {
      current = current-same a.seen b.seen (c.current_side.ensures.same told) ∙ sym (c.in-Ok.ensures.value told);
      settled = λ s. c.in-Ok.ensures.durable told s ∙ ap (λ x. settled x) (sym (c.current_side.ensures.same told s));
    } in
    let one = c.current_side.ensures.any_moment told last in
    other-headed header leaves one (c.close_other.ensures.shown told one.last (alone-sole own b alone))

pub returns-in_err-close_other-clause-past : goal.returns-in_err-close_other-clause-past
returns-in_err-close_other-clause-past g c = λ told last.
    let one = all-past (c.current_side.ensures.any_moment told last) in
    then-past (c.close_other.ensures.past told one.last) one

pub returns-in_err-close_own-clause-shown : goal.returns-in_err-close_own-clause-shown
returns-in_err-close_own-clause-shown g c = λ header told last leaves.
    let own = c.in-Ok.side in
    let a = g.D.Disk.stands c.args.disk.now in
    let b = g.D.Disk.stands c.current_side.new.disk in
    let alone : IsAlone own b = record {
      current = current-same a.seen b.seen (c.current_side.ensures.same told) ∙ sym (c.in-Ok.ensures.value told);
      settled = λ s. c.in-Ok.ensures.durable told s ∙ ap (λ x. settled x) (sym (c.current_side.ensures.same told s));
    } in
    let one = c.current_side.ensures.any_moment told last in
    let two = c.close_other.ensures.shown told one.last (alone-sole own b alone) in
    own-headed header leaves one two (c.close_own.ensures.shown told two.last (c.in_ok-close_other.ensures.gone told (alone-beside own b alone)))

pub returns-in_err-close_own-clause-past : goal.returns-in_err-close_own-clause-past
returns-in_err-close_own-clause-past g c = λ told last.
    let one = all-past (c.current_side.ensures.any_moment told last) in
    let two = c.close_other.ensures.past told one.last in
    then-past (c.close_own.ensures.past told two.last) (then-past two one)

pub returns-clause-shown : goal.returns-clause-shown
returns-clause-shown g c = λ header told last leaves.
    let own = c.in-Ok.side in
    let a = g.D.Disk.stands c.args.disk.now in
    let b = g.D.Disk.stands c.current_side.new.disk in
    let alone : IsAlone own b = record {
      current = current-same a.seen b.seen (c.current_side.ensures.same told) ∙ sym (c.in-Ok.ensures.value told);
      settled = λ s. c.in-Ok.ensures.durable told s ∙ ap (λ x. settled x) (sym (c.current_side.ensures.same told s));
    } in
    let one = c.current_side.ensures.any_moment told last in
    let two = c.close_other.ensures.shown told one.last (alone-sole own b alone) in
    own-headed header leaves one two (c.close_own.ensures.shown told two.last (c.in_ok-close_other.ensures.gone told (alone-beside own b alone)))

pub returns-clause-past : goal.returns-clause-past
returns-clause-past g c = λ told last.
    let one = all-past (c.current_side.ensures.any_moment told last) in
    let two = c.close_other.ensures.past told one.last in
    then-past (c.close_own.ensures.past told two.last) (then-past two one)

pub returns-clause-gone : goal.returns-clause-gone
returns-clause-gone g c = λ told side.
    let own = c.in-Ok.side in
    let a = g.D.Disk.stands c.args.disk.now in
    let b = g.D.Disk.stands c.current_side.new.disk in
    let m = g.D.Disk.stands c.close_other.new.disk in
    let d = g.D.Disk.stands c.close_own.new.disk in
    let alone : IsAlone own b = record {
      current = current-same a.seen b.seen (c.current_side.ensures.same told) ∙ sym (c.in-Ok.ensures.value told);
      settled = λ s. c.in-Ok.ensures.durable told s ∙ ap (λ x. settled x) (sym (c.current_side.ensures.same told s));
    } in
    let there = c.in_ok-close_other.ensures.gone told (alone-beside own b alone) in
    elim (two-sides own side) [
      | inl e ↦ subst (λ s. IsBlankEverywhere (d.loose s)) e (c.in_ok-close_own.ensures.gone told (own-beside own b m alone (c.close_other.ensures.other told)))
      | inr e ↦ subst (λ s. IsBlankEverywhere (d.loose s)) e (gone-stays own m d (c.close_own.ensures.other told) there)
    ]
