use Rattle.std.proofs.Common.{ap, sym, refl, subst, [], length, None, IsSome, is_some}
use Rattle.hs_ports.specs.declared.disk.Side.TheVariants.{Zero, One}
use Rattle.hs_side.specs.declared.header.Header.{Header}
use Rattle.hs_side.specs.Standing.{SideState}
use Rattle.hs_peerlog.specs.Heads.{IsBlankOrOf, LeavesHeader}
use Rattle.hs_peerlog.proofs.HeaderLemmas.{empty-headed, some-head}
use Rattle.hs_peerlog.proofs.ListLemmas.{empty-kept}
use Rattle.hs_peerlog.proofs.ShownLemmas.{shown-header, then-past, then-shown}
use Rattle.hs_peerlog.proofs.log.PeerLog.clear.Goals as goal

pub write_empty-requires : goal.write_empty-requires
write_empty-requires g c = λ told. c.in_ok-close_both.ensures.gone told Zero

pub returns-clause-ready : goal.returns-clause-ready
returns-clause-ready g c = record {
  stands = c.in-Ok.ensures.stands;
  begun = subst (λ (k : SideState). IsSome k.head) (sym c.in-Ok.ensures.value) refl;
  waits = ap (λ (k : SideState). is_some k.waiting) (sym c.in-Ok.ensures.value);
  counted = ap (λ (k : SideState). length k.places) (sym c.in-Ok.ensures.value);
  next = tt;
  told = λ told. record { list = []; waiting = None; kept = empty-kept _ _ (c.in-Ok.ensures.list told) refl refl };
}

pub returns-clause-list : goal.returns-clause-list
returns-clause-list g c = λ told last.
    let then = (c.close_both.ensures.past told last).last in
    let gone = c.in_ok-close_both.ensures.gone told One in
    record {
      kept = empty-kept _ _ (c.in-Ok.ensures.list told) refl refl;
      sole = c.in-Ok.ensures.sole told then gone;
      leaves = c.in-Ok.ensures.leaves told then gone;
      beside = c.in-Ok.ensures.beside told then gone;
      headed = λ head is.
          subst (λ (h : Header). LeavesHeader (g.D.Disk.stands c.write_empty.new.disk) h)
          (some-head c.in-Ok.log.head c.own_header-header.result 1 head (ap (λ (k : SideState). k.head) c.in-Ok.ensures.value) is)
          (λ image left. empty-headed c.own_header-header.result 1 _ ((c.write_empty.ensures.shown told then gone).standing image left));
    }

pub returns-in_err-close_both-clause-headed : goal.returns-in_err-close_both-clause-headed
returns-in_err-close_both-clause-headed g c = λ told last had. shown-header (c.close_both.ensures.shown _ told last had)

pub returns-in-Err-clause-headed : goal.returns-in-Err-clause-headed
returns-in-Err-clause-headed g c = λ told last had.
    let one = c.close_both.ensures.shown _ told last had in
    let two = c.write_empty.ensures.shown told one.last (c.in_ok-close_both.ensures.gone told One) in
    shown-header (then-shown two one (λ bytes h. h) (λ bytes e. subst (λ (h : Header). IsBlankOrOf h bytes) c.own_header-header.ensures (empty-headed c.own_header-header.result 1 bytes e)))

pub returns-clause-headed : goal.returns-clause-headed
returns-clause-headed g c = λ told last had.
    let one = c.close_both.ensures.shown _ told last had in
    let two = c.write_empty.ensures.shown told one.last (c.in_ok-close_both.ensures.gone told One) in
    shown-header (then-shown two one (λ bytes h. h) (λ bytes e. subst (λ (h : Header). IsBlankOrOf h bytes) c.own_header-header.ensures (empty-headed c.own_header-header.result 1 bytes e)))

pub returns-in-Err-clause-past : goal.returns-in-Err-clause-past
returns-in-Err-clause-past g c = λ told last. let one = c.close_both.ensures.past told last in then-past (c.write_empty.ensures.past told one.last) one

pub returns-clause-past : goal.returns-clause-past
returns-clause-past g c = λ told last. let one = c.close_both.ensures.past told last in then-past (c.write_empty.ensures.past told one.last) one
