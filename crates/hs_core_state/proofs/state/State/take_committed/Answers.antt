use Rattle.std.proofs.Common.{◌≡◌, ◌∙◌, sym, ap, refl, arith}
use Rattle.std.proofs.lemmas.Grind.{common_steps}
use Rattle.hs_core_state.specs.declared.state.State.TheView.{view}
use Rattle.hs_core_words.specs.Looking.{group_of, shape_of}
use Rattle.hs_core_words.specs.State.{Core}
use Rattle.hs_members.specs.Members.{IsShard}
use Rattle.hs_replica.specs.Group.{committed, take_committed}
use Rattle.hs_core_state.proofs.StepLemmas.{core_taken, fronts_told, steps_taken, taken_number}
use Rattle.std.proofs.Common.{Some}
use Rattle.hs_core_state.proofs.state.State.take_committed.Goals as goal

pub invariant_of-self-2 : goal.invariant_of-self-2
invariant_of-self-2 c =
    let old : Core = view c.self.inside in
    let shard = c.args.shard in
    let within : IsShard (shape_of old) shard = rw (← c.self.view_is) at c.requires in
    let is = c.self.invariant in
    let item : c.index_mut.result.now ≡ group_of shard old = grind (arith, common_steps) in
    let new : c.take_committed.new.self ≡ take_committed (group_of shard old) = c.take_committed.ensures.rest ∙ ap take_committed item in
    let some : committed (group_of shard old) ≡ Some (c.in_ok-number.number, c.in_ok-number.entry) = rw (← item) (sym c.take_committed.ensures.entry ∙ c.in_ok-number.was) in
    let front : c.in_ok-number.number ≡ (take_committed (group_of shard old)).front = sym (taken_number (group_of shard old) c.in_ok-number.number c.in_ok-number.entry some) in
    rw (c.from-place.ensures, new, front) (record {
      kept = core_taken old _ shard is.kept within refl refl refl refl refl refl;
      fronts = fronts_told old _ shard (take_committed (group_of shard old)) c.self.inside.fronts.items is.kept within is.fronts refl refl;
      steps = steps_taken old _ shard c.self.inside.steps.items is.kept (core_taken old _ shard is.kept within refl refl refl refl refl refl) within is.steps refl refl refl;
      sessions = is.sessions;
      journal = is.journal;
      placed = is.placed;
    })
