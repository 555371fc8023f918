use Rattle.std.proofs.Common.{◌∙◌, ap, sym, subst, ◌<◌, arith, ℕ}
use Rattle.hs_desk.specs.declared.token.Token.{Token}
use Rattle.hs_load.specs.Seating.{IsSeated}
use Rattle.hs_load.specs.Team.{fresh_token}
use Rattle.hs_load.proofs.ListLemmas.{all_more, ok_more}
use Rattle.hs_load.proofs.seating.seat_askers.Goals as goal

pub loop-number-preserved : goal.loop-number-preserved
loop-number-preserved g c = λ slots old now task count all.
    all_more (IsSeated g.D.Disk.tells g.D.Disk.size g.D.Disk.stands g.D.Disk.faults slots old now task) c.loop-number.elements.items c.add.new.items.items _ c.in_ok-add.ensures.ok
    (c.loop-number.invariant slots old now task count all)
    ((let low = c.loop-number-test.true in omega (arith, low, count)), (c.new-pass.ensures ∙ ap fresh_token c.in_ok-session_of.ensures))

pub returns : goal.returns
returns g c = λ slots old now task count all.
    ok_more (IsSeated g.D.Disk.tells g.D.Disk.size g.D.Disk.stands g.D.Disk.faults slots old now task) c.add-2.result c.loop-number.elements.items c.add-2.new.items.items _ c.add-2.ensures.ok
    (c.loop-number.invariant slots old now task count all)
    (c.new-pass-2.ensures ∙ ap fresh_token c.in_ok-deleter_name.ensures)
