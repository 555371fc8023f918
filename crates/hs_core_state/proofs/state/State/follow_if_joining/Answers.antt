use Rattle.std.proofs.Common.{◌≡◌, sym, refl, arith}
use Rattle.std.proofs.lemmas.Grind.{common_steps}
use Rattle.std.proofs.lemmas.List.{length-set}
use Rattle.std.specs.Prelude.{slice_set}
use Rattle.hs_core_state.specs.declared.state.State.TheView.{view}
use Rattle.hs_core_words.specs.Looking.{group_of, shape_of}
use Rattle.hs_core_state.specs.Renewing.{Renews}
use Rattle.hs_core_words.specs.State.{Core}
use Rattle.hs_members.specs.Members.{IsShard, home_of}
use Rattle.hs_core_state.proofs.StatusLemmas.{core_told, fronts_same}
use Rattle.hs_core_state.proofs.StepLemmas.{rejoin_beside, steps_renewed}
use Rattle.hs_core_state.proofs.state.State.follow_if_joining.Goals as goal

pub invariant_of-self : goal.invariant_of-self
invariant_of-self c =
    let old : Core = view c.self.inside in
    let shard = c.home-shard.result in
    let within : IsShard (shape_of old) shard = rw (← c.self.view_is) at c.home-shard.ensures.shard in
    let is = c.self.invariant in
    let rejoins = slice_set c.self.inside.rejoins.items c.from.result c.follow_from.new.rejoin in
    let item : c.index.result.now ≡ group_of shard old = grind (arith, common_steps) in
    let at : home_of (shape_of old) c.from.result ≡ shard = rw c.from.ensures (sym (rw (← c.self.view_is) at c.home-shard.ensures.home)) in
    let renews : Renews old.members (group_of shard old) rejoins shard c.self.inside.steps.items c.renew_steps.new.steps.items = rw (← item, ← c.as_slice.ensures.value) c.renew_steps.ensures.renewed in
    record {
      kept = core_told old _ is.kept is.kept.members refl refl refl refl refl (length-set c.self.inside.rejoins.items c.from.result c.follow_from.new.rejoin);
      fronts = fronts_same old _ c.self.inside.fronts.items is.fronts refl refl;
      steps = steps_renewed old _ shard c.self.inside.steps.items _ is.kept (core_told old _ is.kept is.kept.members refl refl refl refl refl (length-set c.self.inside.rejoins.items c.from.result c.follow_from.new.rejoin)) is.steps refl renews (λ s d. refl) (λ k d. refl) (λ k d. rejoin_beside c.self.inside.rejoins.items (shape_of old) c.from.result shard k c.follow_from.new.rejoin at d);
      sessions = is.sessions;
      journal = is.journal;
      placed = is.placed;
    }
