use Rattle.hs_core_state.specs.declared.state.State.TheView.{view}
use Rattle.hs_core_words.specs.Looking.{shape_of}
use Rattle.hs_core_words.specs.State.{Core}
use Rattle.hs_members.specs.Members.{IsShard}
use Rattle.hs_core_state.proofs.PlacedLemmas.{fronts_beside, kept_beside, steps_beside, within_none, within_put}
use Rattle.hs_core_state.proofs.state.State.add_operation.Goals as goal

pub invariant_of-self : goal.invariant_of-self
invariant_of-self c =
    let old : Core = view c.self.inside in
    let is = c.self.invariant in
    record {
      kept = kept_beside old c.put.new.self is.kept;
      fronts = fronts_beside old c.put.new.self c.self.inside.fronts.items is.fronts;
      steps = steps_beside old c.put.new.self c.self.inside.steps.items is.kept is.steps;
      sessions = is.sessions;
      journal = is.journal;
      placed = within_none (shape_of old).shards c.put.new.self c.in_err-put.ensures.none;
    }

pub invariant_of-self-2 : goal.invariant_of-self-2
invariant_of-self-2 c =
    let old : Core = view c.self.inside in
    let within : IsShard (shape_of old) c.args.waiting.shard = rw (← c.self.view_is) at c.requires in
    let is = c.self.invariant in
    record {
      kept = kept_beside old c.put.new.self is.kept;
      fronts = fronts_beside old c.put.new.self c.self.inside.fronts.items is.fronts;
      steps = steps_beside old c.put.new.self c.self.inside.steps.items is.kept is.steps;
      sessions = is.sessions;
      journal = is.journal;
      placed = within_put (shape_of old).shards c.args.line c.args.waiting old.operations c.put.new.self c.in_ok-put.ensures.ok within is.placed;
    }
