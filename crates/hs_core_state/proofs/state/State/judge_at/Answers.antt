use Rattle.std.proofs.Common.{◌≡◌, ◌∙◌, ap, Some, None, arith}
use Rattle.std.proofs.lemmas.Grind.{common_steps}
use Rattle.std.specs.BTreeMap.{is_at}
use Rattle.std.specs.Map.{lookup}
use Rattle.std.specs.Ordering.{nat_cmp}
use Rattle.hs_awaiting.specs.declared.judging.Judged.{Judged}
use Rattle.hs_awaiting.specs.Going.{given_by, next_step}
use Rattle.hs_core_state.specs.declared.state.State.TheView.{view}
use Rattle.hs_core_state.specs.Going.{sight_of, view_by}
use Rattle.hs_core_words.specs.Looking.{shape_of}
use Rattle.hs_core_words.specs.State.{Core}
use Rattle.hs_ops.specs.Answers.{gained}
use Rattle.hs_core_state.proofs.PlacedLemmas.{fronts_beside, kept_beside, steps_beside, within_judged, within_none}
use Rattle.hs_core_state.proofs.state.State.judge_at.Goals as goal

pub invariant_of-self : goal.invariant_of-self
invariant_of-self c =
    let old : Core = view c.self.inside in
    let is = c.self.invariant in
    record {
      kept = kept_beside old c.judge.new.self is.kept;
      fronts = fronts_beside old c.judge.new.self c.self.inside.fronts.items is.fronts;
      steps = steps_beside old c.judge.new.self c.self.inside.steps.items is.kept is.steps;
      sessions = is.sessions;
      journal = is.journal;
      placed = within_none (shape_of old).shards c.judge.new.self c.in_err-judge.ensures.none;
    }

pub invariant_of-self-2 : goal.invariant_of-self-2
invariant_of-self-2 c =
    let old : Core = view c.self.inside in
    let is = c.self.invariant in
    record {
      kept = kept_beside old c.judge.new.self is.kept;
      fronts = fronts_beside old c.judge.new.self c.self.inside.fronts.items is.fronts;
      steps = steps_beside old c.judge.new.self c.self.inside.steps.items is.kept is.steps;
      sessions = is.sessions;
      journal = is.journal;
      placed = within_judged (shape_of old).shards c.args.how.now c.as_slice-pointers.result.now c.view-view.result c.args.line old.operations c.judge.new.self c.in_ok-judge.ensures.ok is.placed;
    }

pub returns-clause-step : goal.returns-clause-step
returns-clause-step c w e =
    let core = c.args.self.now in
    let how = c.args.how.now in
    let aim = c.args.aim in
    let found : lookup (is_at (nat_cmp c.args.line)) c.self.inside.operations ≡ Some w = grind (arith, common_steps, e) in
    let pointers : c.as_slice-pointers.result.now ≡ (sight_of aim core).pointers = grind (arith, common_steps) in
    let view : c.view-view.result ≡ view_by (sight_of aim core) aim None core = grind (arith, common_steps) in
    c.in_ok-judge.ensures.step w found
    ∙ ap (λ ps. next_step how ps c.view-view.result w.operation) pointers
    ∙ ap (λ v. next_step how (sight_of aim core).pointers v w.operation) view

pub returns-clause-helds : goal.returns-clause-helds
returns-clause-helds c w e =
    let core = c.args.self.now in
    let aim = c.args.aim in
    let found : lookup (is_at (nat_cmp c.args.line)) c.self.inside.operations ≡ Some w = grind (arith, common_steps, e) in
    let pointers : c.as_slice-pointers.result.now ≡ (sight_of aim core).pointers = grind (arith, common_steps) in
    let view : c.view-view.result ≡ view_by (sight_of aim core) aim None core = grind (arith, common_steps) in
    let j : Judged = c.in_ok-judge.field-0 in
    c.in_ok-judge.ensures.helds w found
    ∙ ap (λ ps. given_by j.step (gained c.view-view.result ps w.operation.op)) pointers
    ∙ ap (λ v. given_by j.step (gained v (sight_of aim core).pointers w.operation.op)) view
