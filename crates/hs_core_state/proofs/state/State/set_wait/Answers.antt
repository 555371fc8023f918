use Rattle.hs_core_state.specs.declared.state.State.TheView.{view}
use Rattle.hs_core_words.specs.Looking.{shape_of}
use Rattle.hs_core_words.specs.State.{Core}
use Rattle.hs_core_state.proofs.GoingLemmas.{waits_in}
use Rattle.hs_core_state.proofs.PlacedLemmas.{fronts_beside, kept_beside, steps_beside, within_none, within_waits}
use Rattle.hs_core_state.proofs.state.State.set_wait.Goals as goal

pub invariant_of-self : goal.invariant_of-self
invariant_of-self c =
    let old : Core = view c.self.inside in
    let is = c.self.invariant in
    record {
      kept = kept_beside old c.set_wait.new.self is.kept;
      fronts = fronts_beside old c.set_wait.new.self c.self.inside.fronts.items is.fronts;
      steps = steps_beside old c.set_wait.new.self c.self.inside.steps.items is.kept is.steps;
      sessions = is.sessions;
      journal = is.journal;
      placed = within_none (shape_of old).shards c.set_wait.new.self c.in_err-set_wait.ensures.none;
    }

pub invariant_of-self-2 : goal.invariant_of-self-2
invariant_of-self-2 c =
    let old : Core = view c.self.inside in
    let is = c.self.invariant in
    record {
      kept = kept_beside old c.set_wait.new.self is.kept;
      fronts = fronts_beside old c.set_wait.new.self c.self.inside.fronts.items is.fronts;
      steps = steps_beside old c.set_wait.new.self c.self.inside.steps.items is.kept is.steps;
      sessions = is.sessions;
      journal = is.journal;
      placed = within_waits (shape_of old).shards c.args.line c.args.what old.operations c.set_wait.new.self c.in_ok-set_wait.ensures.ok is.placed;
    }

pub returns-clause-ok : goal.returns-clause-ok
returns-clause-ok c = rw (← c.self.view_is) (waits_in c.args.line c.args.what _ _ c.in_ok-set_wait.ensures.ok)
