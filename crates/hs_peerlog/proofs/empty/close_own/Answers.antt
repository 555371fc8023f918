use Rattle.std.proofs.Common.{◌≡◌, false, true, sym, subst}
use Rattle.std.specs.Prelude.{OnOk}
use Rattle.hs_ports.specs.Disk.{other_side}
use Rattle.hs_side.specs.Giving.{IsBlankEverywhere}
use Rattle.hs_side.specs.Reading.{is_blank}
use Rattle.hs_peerlog.proofs.ResetLemmas.{gone-if, side-closed, twice}
use Rattle.hs_peerlog.proofs.ShownLemmas.{side-past}
use Rattle.hs_peerlog.proofs.empty.close_own.Goals as goal

pub returns-clause-shown : goal.returns-clause-shown
returns-clause-shown g c = λ told last gone. side-closed c.args.side gone (c.close.ensures.any_moment told last) last (g.met.D.Disk.since told c.args.disk.now)

pub returns-clause-past : goal.returns-clause-past
returns-clause-past g c = λ told last. side-past (c.close.ensures.any_moment told last)

pub returns-clause-gone : goal.returns-clause-gone
returns-clause-gone g c = λ told beside.
    let side = c.args.side in
    let a = g.D.Disk.stands c.args.disk.now in
    let b = g.D.Disk.stands c.close.new.disk in
    subst (λ s. OnOk c.close.result (IsBlankEverywhere (b.loose s))) (twice side)
    (gone-if c.close.result (other_side side) a b beside
    (subst (λ s. is_blank (a.seen s) ≡ true → b ≡ a) (sym (twice side)) (c.close.ensures.left told))
    (subst (λ s. is_blank (a.seen s) ≡ false → OnOk c.close.result (IsBlankEverywhere (b.loose s))) (sym (twice side)) (c.close.ensures.closed told)))
