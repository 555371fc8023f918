use Rattle.std.proofs.Common.{◌≡◌, ◌∙◌, sym, ap, ℕ, arith, refl}
use Rattle.std.proofs.lemmas.Grind.{common_steps}
use Rattle.std.proofs.lemmas.Result.{on_ok_weaker}
use Rattle.hs_awaiting.specs.declared.wait.Wait.TheVariants as wait
use Rattle.hs_core_state.specs.declared.aim.Aim.{Aim}
use Rattle.hs_core_words.specs.Changing.{add_operation}
use Rattle.hs_core_state.specs.Going.{aim_of}
use Rattle.hs_core_state.proofs.GoingLemmas.{begun_from}
use Rattle.hs_core.proofs.beginning.begin_line.Goals as goal
use Rattle.hs_ops.specs.Operations.{new_operation}
use Rattle.hs_ops.specs.Speaking.{judging_shard}

pub judge_first-requires : goal.judge_first-requires
judge_first-requires c = c.first_aim-aim.ensures.shard

pub take_first-requires-clause-aim : goal.take_first-requires-clause-aim
take_first-requires-clause-aim c = rw c.in_ok-judged.ensures.same c.first_aim-aim.ensures.shard

pub take_first-requires-clause-waiting : goal.take_first-requires-clause-waiting
take_first-requires-clause-waiting c = rw c.in_ok-judged.ensures.same c.first_aim-aim.ensures.shard

pub returns-clause-ok : goal.returns-clause-ok
returns-clause-ok c =
    let first = c.set_line.new.self in
    let aim : Aim = c.first_aim-aim.result in
    let judged = c.in_ok-judged.judged in
    let its = c.in_ok-judged.ensures in
    let operation = c.in_ok-operation.operation in
    let made : operation ≡ new_operation c.args.line c.args.op = cc c.in_ok-operation.ensures in
    let own : aim ≡ aim_of (judging_shard first.members.shape.shards first.sessions operation.op) operation.op first = c.first_aim-aim.ensures.value in
    let place : aim.shard ≡ judging_shard first.members.shape.shards first.sessions operation.op = ap (λ (a : Aim). a.shard) own in
    let about : aim ≡ aim_of aim.shard operation.op first = own ∙ ap (λ (k : ℕ). aim_of k operation.op first) (sym place) in
    on_ok_weaker c.take_first.result
    (begun_from c.args.line c.args.op c.args.core.now first c.judge_first.new.self
    (add_operation c.args.line (record { operation = c.judge_first.new.operation; shard = aim.shard; wait = wait.View }) c.judge_first.new.self)
    c.take_first.new.core operation c.judge_first.new.operation aim.shard aim c.in_ok-busy.busy judged.step judged.helds
    c.set_line.ensures made place about c.in_ok-busy.ensures its.step its.helds its.after its.same refl)
    c.take_first.ensures.ok
