use Rattle.std.proofs.Common.{◌≡◌, ◌∙◌, ap, sym, refl, subst, [], length, None, IsSome, is_some, false}
use Rattle.hs_ports.specs.declared.disk.Side.{Side}
use Rattle.hs_side.specs.Reading.{is_blank}
use Rattle.hs_side.specs.Standing.{SideState}
use Rattle.hs_side.specs.declared.header.Header.{Header}
use Rattle.hs_peerlog.specs.Heads.{IsBlankOrOf}
use Rattle.hs_peerlog.specs.Images.{IsSole}
use Rattle.hs_peerlog.specs.Lists.{IsBlankBeside, Keeping}
use Rattle.hs_peerlog.specs.Steps.{current_bytes}
use Rattle.hs_peerlog.proofs.ListLemmas.{empty-kept}
use Rattle.hs_peerlog.proofs.HeaderLemmas.{empty-headed, some-head, some-header}
use Rattle.hs_peerlog.proofs.ResetLemmas.{all-emptied, emptied-header, emptied-lists, gone-stays, has-full, one-emptied, two-emptied}
use Rattle.hs_peerlog.proofs.ShownLemmas.{then-past}
use Rattle.hs_peerlog.proofs.log.PeerLog.reset.Goals as goal

pub write_empty-requires : goal.write_empty-requires
write_empty-requires g c = λ told.
    let view : c.self.inside.log ≡ c.args.self.now.log = ap (λ (k : Keeping). k.log) c.self.view_is in
    let side : c.side-side.result ≡ c.args.self.now.log.side = c.side-side.ensures ∙ ap (λ (k : SideState). k.side) view in
    let some = c.requires.ready.told told in
    let full : is_blank ((g.D.Disk.stands c.args.disk.now).seen c.side-side.result) ≡ false = ap (λ s. is_blank ((g.D.Disk.stands c.args.disk.now).seen s)) side ∙ has-full c.args.self.now.log.places _ some.list some.kept.listed in
    c.in_ok-close_own.ensures.closed told (ap (λ b. is_blank b) (c.close_other.ensures.other told).seen ∙ full)

pub returns-in_err-close_other-clause-any_moment : goal.returns-in_err-close_other-clause-any_moment
returns-in_err-close_other-clause-any_moment g c = λ told last list waiting has.
    let view : c.self.inside.log ≡ c.args.self.now.log = ap (λ (k : Keeping). k.log) c.self.view_is in
    let side : c.side-side.result ≡ c.args.self.now.log.side = c.side-side.ensures ∙ ap (λ (k : SideState). k.side) view in
    let a = g.D.Disk.stands c.args.disk.now in
    let one = c.close_other.ensures.shown told last (subst (λ (s : Side). IsSole s a) (sym side) has.sole) in
    emptied-lists a c.header-header.result c.in-Some.generation (one-emptied a c.header-header.result c.in-Some.generation one) list has.leaves

pub returns-in_err-close_other-clause-headed : goal.returns-in_err-close_other-clause-headed
returns-in_err-close_other-clause-headed g c = λ told last list waiting has head is.
    let view : c.self.inside.log ≡ c.args.self.now.log = ap (λ (k : Keeping). k.log) c.self.view_is in
    let side : c.side-side.result ≡ c.args.self.now.log.side = c.side-side.ensures ∙ ap (λ (k : SideState). k.side) view in
    let a = g.D.Disk.stands c.args.disk.now in
    let one = c.close_other.ensures.shown told last (subst (λ (s : Side). IsSole s a) (sym side) has.sole) in
    emptied-header a head.0 c.in-Some.generation (one-emptied a head.0 c.in-Some.generation one) (has.headed head is)

pub returns-in_err-close_other-clause-past : goal.returns-in_err-close_other-clause-past
returns-in_err-close_other-clause-past g c = λ told last. c.close_other.ensures.past told last

pub returns-in_err-close_own-clause-any_moment : goal.returns-in_err-close_own-clause-any_moment
returns-in_err-close_own-clause-any_moment g c = λ told last list waiting has.
    let view : c.self.inside.log ≡ c.args.self.now.log = ap (λ (k : Keeping). k.log) c.self.view_is in
    let side : c.side-side.result ≡ c.args.self.now.log.side = c.side-side.ensures ∙ ap (λ (k : SideState). k.side) view in
    let a = g.D.Disk.stands c.args.disk.now in
    let one = c.close_other.ensures.shown told last (subst (λ (s : Side). IsSole s a) (sym side) has.sole) in
    let gone = c.in_ok-close_other.ensures.gone told (subst (λ (s : Side). IsBlankBeside s a) (sym side) has.beside) in
    let two = c.close_own.ensures.shown told one.last gone in
    emptied-lists a c.header-header.result c.in-Some.generation (two-emptied a c.header-header.result c.in-Some.generation one two) list has.leaves

pub returns-in_err-close_own-clause-headed : goal.returns-in_err-close_own-clause-headed
returns-in_err-close_own-clause-headed g c = λ told last list waiting has head is.
    let view : c.self.inside.log ≡ c.args.self.now.log = ap (λ (k : Keeping). k.log) c.self.view_is in
    let side : c.side-side.result ≡ c.args.self.now.log.side = c.side-side.ensures ∙ ap (λ (k : SideState). k.side) view in
    let a = g.D.Disk.stands c.args.disk.now in
    let one = c.close_other.ensures.shown told last (subst (λ (s : Side). IsSole s a) (sym side) has.sole) in
    let gone = c.in_ok-close_other.ensures.gone told (subst (λ (s : Side). IsBlankBeside s a) (sym side) has.beside) in
    let two = c.close_own.ensures.shown told one.last gone in
    emptied-header a head.0 c.in-Some.generation (two-emptied a head.0 c.in-Some.generation one two) (has.headed head is)

pub returns-in_err-close_own-clause-past : goal.returns-in_err-close_own-clause-past
returns-in_err-close_own-clause-past g c = λ told last.
    let one = c.close_other.ensures.past told last in
    then-past (c.close_own.ensures.past told one.last) one

pub returns-in-Err-clause-any_moment : goal.returns-in-Err-clause-any_moment
returns-in-Err-clause-any_moment g c = λ told last list waiting has.
    let view : c.self.inside.log ≡ c.args.self.now.log = ap (λ (k : Keeping). k.log) c.self.view_is in
    let side : c.side-side.result ≡ c.args.self.now.log.side = c.side-side.ensures ∙ ap (λ (k : SideState). k.side) view in
    let a = g.D.Disk.stands c.args.disk.now in
    let one = c.close_other.ensures.shown told last (subst (λ (s : Side). IsSole s a) (sym side) has.sole) in
    let gone = c.in_ok-close_other.ensures.gone told (subst (λ (s : Side). IsBlankBeside s a) (sym side) has.beside) in
    let two = c.close_own.ensures.shown told one.last gone in
    let there = gone-stays c.side-side.result (g.D.Disk.stands c.close_other.new.disk) (g.D.Disk.stands c.close_own.new.disk) (c.close_own.ensures.other told) gone in
    let three = c.write_empty.ensures.shown told two.last there in
    emptied-lists a c.header-header.result c.in-Some.generation (all-emptied a c.header-header.result c.in-Some.generation one two three) list has.leaves

pub returns-in-Err-clause-headed : goal.returns-in-Err-clause-headed
returns-in-Err-clause-headed g c = λ told last list waiting has head is.
    let view : c.self.inside.log ≡ c.args.self.now.log = ap (λ (k : Keeping). k.log) c.self.view_is in
    let side : c.side-side.result ≡ c.args.self.now.log.side = c.side-side.ensures ∙ ap (λ (k : SideState). k.side) view in
    let header : c.header-header.result ≡ head.0 = some-header c.args.self.now.log.head head c.header-header.result is (rw view at c.header-header.ensures) in
    let a = g.D.Disk.stands c.args.disk.now in
    let one = c.close_other.ensures.shown told last (subst (λ (s : Side). IsSole s a) (sym side) has.sole) in
    let gone = c.in_ok-close_other.ensures.gone told (subst (λ (s : Side). IsBlankBeside s a) (sym side) has.beside) in
    let two = c.close_own.ensures.shown told one.last gone in
    let there = gone-stays c.side-side.result (g.D.Disk.stands c.close_other.new.disk) (g.D.Disk.stands c.close_own.new.disk) (c.close_own.ensures.other told) gone in
    let three = c.write_empty.ensures.shown told two.last there in
    emptied-header a head.0 c.in-Some.generation (all-emptied a head.0 c.in-Some.generation one two (rw header at three)) (has.headed head is)

pub returns-in-Err-clause-past : goal.returns-in-Err-clause-past
returns-in-Err-clause-past g c = λ told last.
    let one = c.close_other.ensures.past told last in
    let two = c.close_own.ensures.past told one.last in
    then-past (c.write_empty.ensures.past told two.last) (then-past two one)

pub returns-clause-any_moment : goal.returns-clause-any_moment
returns-clause-any_moment g c = λ told last list waiting has.
    let view : c.self.inside.log ≡ c.args.self.now.log = ap (λ (k : Keeping). k.log) c.self.view_is in
    let side : c.side-side.result ≡ c.args.self.now.log.side = c.side-side.ensures ∙ ap (λ (k : SideState). k.side) view in
    let a = g.D.Disk.stands c.args.disk.now in
    let one = c.close_other.ensures.shown told last (subst (λ (s : Side). IsSole s a) (sym side) has.sole) in
    let gone = c.in_ok-close_other.ensures.gone told (subst (λ (s : Side). IsBlankBeside s a) (sym side) has.beside) in
    let two = c.close_own.ensures.shown told one.last gone in
    let there = gone-stays c.side-side.result (g.D.Disk.stands c.close_other.new.disk) (g.D.Disk.stands c.close_own.new.disk) (c.close_own.ensures.other told) gone in
    let three = c.write_empty.ensures.shown told two.last there in
    emptied-lists a c.header-header.result c.in-Some.generation (all-emptied a c.header-header.result c.in-Some.generation one two three) list has.leaves

pub returns-clause-headed : goal.returns-clause-headed
returns-clause-headed g c = λ told last list waiting has head is.
    let view : c.self.inside.log ≡ c.args.self.now.log = ap (λ (k : Keeping). k.log) c.self.view_is in
    let side : c.side-side.result ≡ c.args.self.now.log.side = c.side-side.ensures ∙ ap (λ (k : SideState). k.side) view in
    let header : c.header-header.result ≡ head.0 = some-header c.args.self.now.log.head head c.header-header.result is (rw view at c.header-header.ensures) in
    let a = g.D.Disk.stands c.args.disk.now in
    let one = c.close_other.ensures.shown told last (subst (λ (s : Side). IsSole s a) (sym side) has.sole) in
    let gone = c.in_ok-close_other.ensures.gone told (subst (λ (s : Side). IsBlankBeside s a) (sym side) has.beside) in
    let two = c.close_own.ensures.shown told one.last gone in
    let there = gone-stays c.side-side.result (g.D.Disk.stands c.close_other.new.disk) (g.D.Disk.stands c.close_own.new.disk) (c.close_own.ensures.other told) gone in
    let three = c.write_empty.ensures.shown told two.last there in
    emptied-header a head.0 c.in-Some.generation (all-emptied a head.0 c.in-Some.generation one two (rw header at three)) (has.headed head is)

pub returns-clause-past : goal.returns-clause-past
returns-clause-past g c = λ told last.
    let one = c.close_other.ensures.past told last in
    let two = c.close_own.ensures.past told one.last in
    then-past (c.write_empty.ensures.past told two.last) (then-past two one)

pub returns-clause-ready : goal.returns-clause-ready
returns-clause-ready g c = record {
  stands = c.in-Ok.ensures.stands;
  begun = subst (λ (k : SideState). IsSome k.head) (sym c.in-Ok.ensures.value) refl;
  waits = ap (λ (k : SideState). is_some k.waiting) (sym c.in-Ok.ensures.value);
  counted = ap (λ (k : SideState). length k.places) (sym c.in-Ok.ensures.value);
  next = tt;
  told = λ told. record { list = []; waiting = None; kept = empty-kept _ _ (c.in-Ok.ensures.list told) refl refl };
}

pub returns-clause-list : goal.returns-clause-list
returns-clause-list g c = λ told last list waiting has.
    let view : c.self.inside.log ≡ c.args.self.now.log = ap (λ (k : Keeping). k.log) c.self.view_is in
    let side : c.side-side.result ≡ c.args.self.now.log.side = c.side-side.ensures ∙ ap (λ (k : SideState). k.side) view in
    let a = g.D.Disk.stands c.args.disk.now in
    let one = c.close_other.ensures.shown told last (subst (λ (s : Side). IsSole s a) (sym side) has.sole) in
    let gone = c.in_ok-close_other.ensures.gone told (subst (λ (s : Side). IsBlankBeside s a) (sym side) has.beside) in
    let two = c.close_own.ensures.shown told one.last gone in
    let there = gone-stays c.side-side.result (g.D.Disk.stands c.close_other.new.disk) (g.D.Disk.stands c.close_own.new.disk) (c.close_own.ensures.other told) gone in
    let three = c.write_empty.ensures.shown told two.last there in
    record {
      kept = empty-kept _ _ (c.in-Ok.ensures.list told) refl refl;
      sole = c.in-Ok.ensures.sole told two.last there;
      leaves = c.in-Ok.ensures.leaves told two.last there;
      beside = c.in-Ok.ensures.beside told two.last there;
      headed = λ head is.
          let same : c.header-header.result ≡ head.0 = some-head c.in-Ok.log.head c.header-header.result c.in-Some.generation head (ap (λ (k : SideState). k.head) c.in-Ok.ensures.value) is in
          λ image left. subst (λ (h : Header). IsBlankOrOf h (current_bytes image)) same (empty-headed c.header-header.result c.in-Some.generation (current_bytes image) (three.standing image left));
    }
