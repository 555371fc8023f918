use Rattle.std.proofs.Common.{◌≡◌, sym, refl, arith}
use Rattle.std.proofs.lemmas.Grind.{common_steps}
use Rattle.std.proofs.lemmas.List.{length-set}
use Rattle.std.specs.Prelude.{slice_set}
use Rattle.hs_core_state.specs.declared.state.State.TheView.{view}
use Rattle.hs_core_words.specs.Looking.{group_of, shape_of}
use Rattle.hs_core_state.specs.Renewing.{Renews}
use Rattle.hs_core_words.specs.State.{Core}
use Rattle.hs_members.specs.Members.{IsShard, home_of}
use Rattle.hs_replica.specs.Group.{Group}
use Rattle.hs_replica.specs.Keeping.{KeepsFront}
use Rattle.hs_core_state.proofs.StepLemmas.{core_after, fronts_after, rejoin_beside, steps_after}
use Rattle.hs_core_state.proofs.state.State.empty_copy.Goals as goal

pub invariant_of-self : goal.invariant_of-self
invariant_of-self c =
    let old : Core = view c.self.inside in
    let shard = c.home-shard.result in
    let within : IsShard (shape_of old) shard = rw (← c.self.view_is) at c.home-shard.ensures.shard in
    let is = c.self.invariant in
    let g : Group = c.on_emptied.new.self in
    let item : c.index_mut-group.result.now ≡ group_of shard old = grind (arith, common_steps) in
    let kept : KeepsFront (group_of shard old) g = rw (← item) c.on_emptied.ensures.kept in
    let rejoins = slice_set c.self.inside.rejoins.items c.from.result c.empty_rejoin.new.rejoin in
    let at : home_of (shape_of old) c.from.result ≡ shard = rw c.from.ensures (sym (rw (← c.self.view_is) at c.home-shard.ensures.home)) in
    let renews : Renews old.members g rejoins shard c.self.inside.steps.items c.renew_steps.new.steps.items = rw (← c.as_slice.ensures.value) c.renew_steps.ensures.renewed in
    rw c.from-2.ensures (record {
      kept = core_after old _ shard g is.kept within kept refl refl refl refl refl (length-set c.self.inside.rejoins.items c.from.result c.empty_rejoin.new.rejoin);
      fronts = fronts_after old _ shard g c.self.inside.fronts.items is.kept within is.fronts kept refl refl;
      steps = steps_after old _ shard g c.self.inside.steps.items _ is.kept (core_after old _ shard g is.kept within kept refl refl refl refl refl (length-set c.self.inside.rejoins.items c.from.result c.empty_rejoin.new.rejoin)) within is.steps refl refl renews (λ k d. rejoin_beside c.self.inside.rejoins.items (shape_of old) c.from.result shard k c.empty_rejoin.new.rejoin at d);
      sessions = is.sessions;
      journal = is.journal;
      placed = is.placed;
    })
