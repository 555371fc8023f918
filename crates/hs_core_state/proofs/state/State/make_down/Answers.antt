use Rattle.std.proofs.Common.{◌≡◌, sym, ap, refl, arith, None}
use Rattle.std.proofs.lemmas.Grind.{common_steps}
use Rattle.std.proofs.lemmas.List.{length-set}
use Rattle.std.specs.Prelude.{slice_set}
use Rattle.hs_core_state.specs.declared.state.State.TheView.{view}
use Rattle.hs_core_words.specs.Looking.{group_of, shape_of}
use Rattle.hs_core_state.specs.Renewing.{Renews}
use Rattle.hs_core_words.specs.State.{Core}
use Rattle.hs_limits.specs.declared.limits.PeerStatus.TheVariants.{Down}
use Rattle.hs_members.specs.Members.{IsShard, Members, become, home_of}
use Rattle.hs_core_state.proofs.PlacedLemmas.{within_told}
use Rattle.hs_core_state.proofs.StatusLemmas.{core_told, fronts_same, steps_told}
use Rattle.hs_core_state.proofs.StepLemmas.{rejoin_beside}
use Rattle.hs_core_state.proofs.state.State.make_down.Goals as goal

pub invariant_of-self-2 : goal.invariant_of-self-2
invariant_of-self-2 c =
    let old : Core = view c.self.inside in
    let shard = c.home-shard.result in
    let within : IsShard (shape_of old) shard = rw (← c.self.view_is) at c.home-shard.ensures.shard in
    let is = c.self.invariant in
    let told : c.become_down.new.members ≡ become c.args.peer Down old.members = c.in_ok-become_down.ensures.ok in
    let same : c.become_down.new.members.shape ≡ old.members.shape = ap (λ (x : Members). x.shape) told in
    let item : c.index.result.now ≡ group_of shard old = grind (arith, common_steps) in
    let at : home_of (shape_of old) c.args.peer ≡ shard = sym (rw (← c.self.view_is) at c.home-shard.ensures.home) in
    let from : home_of (shape_of old) c.from-2.result ≡ shard = rw c.from-2.ensures at in
    let renews : Renews c.become_down.new.members (group_of shard old) (slice_set c.self.inside.rejoins.items c.from-2.result None) shard c.self.inside.steps.items c.renew_steps.new.steps.items = rw (← item, ← c.as_slice.ensures.value) c.renew_steps.ensures.renewed in
    record {
      kept = core_told old _ is.kept c.renew_steps.ensures.members same refl refl refl (length-set c.self.inside.tasks.items c.from.result c.new.result) (length-set c.self.inside.rejoins.items c.from-2.result None);
      fronts = fronts_same old _ c.self.inside.fronts.items is.fronts same refl;
      steps = steps_told old _ c.args.peer shard Down c.self.inside.steps.items _ is.kept (core_told old _ is.kept c.renew_steps.ensures.members same refl refl refl (length-set c.self.inside.tasks.items c.from.result c.new.result) (length-set c.self.inside.rejoins.items c.from-2.result None)) is.steps at told refl renews (λ k d. rejoin_beside c.self.inside.rejoins.items (shape_of old) c.from-2.result shard k None from d);
      sessions = is.sessions;
      journal = is.journal;
      placed = within_told old.members c.become_down.new.members old.operations same is.placed;
    }
