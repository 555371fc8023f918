use Rattle.std.proofs.Common.{◌≡◌, refl, arith}
use Rattle.std.proofs.lemmas.Grind.{common_steps}
use Rattle.hs_core_state.specs.declared.state.State.TheView.{view}
use Rattle.hs_core_words.specs.Looking.{group_of, shape_of}
use Rattle.hs_core_state.specs.Renewing.{Renews}
use Rattle.hs_core_words.specs.State.{Core}
use Rattle.hs_members.specs.Members.{IsShard}
use Rattle.hs_replica.specs.Group.{Group}
use Rattle.hs_replica.specs.Keeping.{KeepsFront}
use Rattle.hs_core_state.proofs.StepLemmas.{core_after, fronts_after, of_kept, steps_after}
use Rattle.hs_core_state.proofs.state.State.take_have_in.Goals as goal

pub renew_steps-requires-clause-of : goal.renew_steps-requires-clause-of
renew_steps-requires-clause-of c =
    let within_now : IsShard (shape_of c.args.self.now) c.args.shard = grind (arith, common_steps) in
    let old : Core = view c.self.inside in
    let shard = c.args.shard in
    let within : IsShard (shape_of old) shard = rw (← c.self.view_is) at within_now in
    let is = c.self.invariant in
    let g : Group = c.on_have.new.self in
    let item : c.index_mut-group.result.now ≡ group_of shard old = grind (arith, common_steps) in
    let kept : KeepsFront (group_of shard old) g = rw (← item) c.on_have.ensures.kept in
    of_kept (shape_of old) shard (group_of shard old) g (is.kept.each shard within) kept

pub invariant_of-self : goal.invariant_of-self
invariant_of-self c =
    let within_now : IsShard (shape_of c.args.self.now) c.args.shard = grind (arith, common_steps) in
    let old : Core = view c.self.inside in
    let shard = c.args.shard in
    let within : IsShard (shape_of old) shard = rw (← c.self.view_is) at within_now in
    let is = c.self.invariant in
    let g : Group = c.on_have.new.self in
    let item : c.index_mut-group.result.now ≡ group_of shard old = grind (arith, common_steps) in
    let kept : KeepsFront (group_of shard old) g = rw (← item) c.on_have.ensures.kept in
    let renews : Renews old.members g old.progress.rejoins shard c.self.inside.steps.items c.renew_steps.new.steps.items = rw (← c.as_slice.ensures.value) c.renew_steps.ensures.renewed in
    rw c.from.ensures (record {
      kept = core_after old _ shard g is.kept within kept refl refl refl refl refl refl;
      fronts = fronts_after old _ shard g c.self.inside.fronts.items is.kept within is.fronts kept refl refl;
      steps = steps_after old _ shard g c.self.inside.steps.items _ is.kept (core_after old _ shard g is.kept within kept refl refl refl refl refl refl) within is.steps refl refl renews (λ k d. refl);
      sessions = is.sessions;
      journal = is.journal;
      placed = is.placed;
    })
