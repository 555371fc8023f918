use Rattle.std.proofs.Common.{sym}
use Rattle.std.proofs.lemmas.Result.{on_ok_weaker}
use Rattle.hs_core_state.proofs.GoingLemmas.{gone}
use Rattle.hs_core.proofs.going.go_by.Goals as goal

pub returns-clause-ok : goal.returns-clause-ok
returns-clause-ok c =
    let judged = c.in_ok-judged.judged in
    let its = c.in_ok-judged.ensures in
    on_ok_weaker c.carry_out.result
    (gone c.args.how.now c.args.line c.args.core.now c.judge_at.new.self c.carry_out.new.core c.in-Some.aim judged.step judged.helds (sym c.in-Some.ensures.about) its.ok its.step its.helds)
    c.carry_out.ensures.ok
