use Rattle.std.proofs.Common.{◌≡◌, ◌∙◌, sym, ap, refl, arith, false}
use Rattle.std.proofs.lemmas.Grind.{common_steps}
use Rattle.std.proofs.lemmas.List.{length-set}
use Rattle.hs_awaiting.specs.Views.{restarted}
use Rattle.hs_core_state.specs.declared.state.State.TheView.{view}
use Rattle.hs_core_words.specs.Looking.{group_of, shape_of}
use Rattle.hs_core_state.specs.Renewing.{Renews}
use Rattle.hs_core_words.specs.State.{Core}
use Rattle.hs_members.specs.Members.{IsShard}
use Rattle.hs_replica.specs.Group.{Group}
use Rattle.hs_replica.specs.Keeping.{KeepsFront}
use Rattle.hs_core_state.proofs.PlacedLemmas.{within_again, within_none}
use Rattle.hs_core_state.proofs.StepLemmas.{core_after, fronts_after, of_kept, steps_after}
use Rattle.std.proofs.Common.{◌+◌, ◌-◌, map}
use Rattle.hs_entry.specs.declared.entry.Entry.TheVariants as kind
use Rattle.hs_members.specs.Members.{view_of}
use Rattle.hs_replica.specs.Group.{last_number, on_view, renew, send_all, view_messages}
use Rattle.hs_core_state.proofs.ViewLemmas.{proposed_number}
use Rattle.hs_core_state.proofs.state.State.tell_view.Goals as goal

pub on_view-told-requires : goal.on_view-told-requires
on_view-told-requires c =
    let old : Core = view c.self.inside in
    let shard = c.args.shard in
    let within : IsShard (shape_of old) shard = rw (← c.self.view_is) at c.requires in
    let is = c.self.invariant in
    let item : c.index_mut-group.result.now ≡ group_of shard old = grind (arith, common_steps) in
    rw item (sym (is.kept.each shard within).same_shape)

pub renew_steps-requires-clause-of : goal.renew_steps-requires-clause-of
renew_steps-requires-clause-of c =
    let old : Core = view c.self.inside in
    let shard = c.args.shard in
    let within : IsShard (shape_of old) shard = rw (← c.self.view_is) at c.requires in
    let is = c.self.invariant in
    let g : Group = c.on_view-told.new.self in
    let item : c.index_mut-group.result.now ≡ group_of shard old = grind (arith, common_steps) in
    let kept : KeepsFront (group_of shard old) g = rw (← item) c.on_view-told.ensures.kept in
    of_kept (shape_of old) shard (group_of shard old) g (is.kept.each shard within) kept

pub invariant_of-self : goal.invariant_of-self
invariant_of-self c =
    let old : Core = view c.self.inside in
    let shard = c.args.shard in
    let within : IsShard (shape_of old) shard = rw (← c.self.view_is) at c.requires in
    let is = c.self.invariant in
    let g : Group = c.on_view-told.new.self in
    let item : c.index_mut-group.result.now ≡ group_of shard old = grind (arith, common_steps) in
    let kept : KeepsFront (group_of shard old) g = rw (← item) c.on_view-told.ensures.kept in
    let renews : Renews old.members g old.progress.rejoins shard c.self.inside.steps.items c.renew_steps.new.steps.items = rw (← c.as_slice.ensures.value) c.renew_steps.ensures.renewed in
    rw c.from-place.ensures (record {
      kept = core_after old _ shard g is.kept within kept refl refl refl (length-set c.self.inside.viewed.items shard false) refl refl;
      fronts = fronts_after old _ shard g c.self.inside.fronts.items is.kept within is.fronts kept refl refl;
      steps = steps_after old _ shard g c.self.inside.steps.items _ is.kept (core_after old _ shard g is.kept within kept refl refl refl (length-set c.self.inside.viewed.items shard false) refl refl) within is.steps refl refl renews (λ k d. refl);
      sessions = is.sessions;
      journal = is.journal;
      placed = is.placed;
    })

pub invariant_of-self-2 : goal.invariant_of-self-2
invariant_of-self-2 c =
    let old : Core = view c.self.inside in
    let shard = c.args.shard in
    let within : IsShard (shape_of old) shard = rw (← c.self.view_is) at c.requires in
    let is = c.self.invariant in
    let g : Group = c.on_view-told.new.self in
    let item : c.index_mut-group.result.now ≡ group_of shard old = grind (arith, common_steps) in
    let kept : KeepsFront (group_of shard old) g = rw (← item) c.on_view-told.ensures.kept in
    let renews : Renews old.members g old.progress.rejoins shard c.self.inside.steps.items c.renew_steps.new.steps.items = rw (← c.as_slice.ensures.value) c.renew_steps.ensures.renewed in
    let again : c.restart.new.self ≡ map (λ e. (e.0, restarted shard (c.last_number-number.result - 1) e.1)) old.operations
    = c.in_ok-restart.ensures.ok ∙ ap (λ n. map (λ e. (e.0, restarted shard n e.1)) old.operations) c.saturating_sub.ensures in
    rw c.from-place.ensures (record {
      kept = core_after old _ shard g is.kept within kept refl refl refl (length-set c.self.inside.viewed.items shard false) refl refl;
      fronts = fronts_after old _ shard g c.self.inside.fronts.items is.kept within is.fronts kept refl refl;
      steps = steps_after old _ shard g c.self.inside.steps.items _ is.kept (core_after old _ shard g is.kept within kept refl refl refl (length-set c.self.inside.viewed.items shard false) refl refl) within is.steps refl refl renews (λ k d. refl);
      sessions = is.sessions;
      journal = is.journal;
      placed = within_again (shape_of old).shards shard (c.last_number-number.result - 1) old.operations c.restart.new.self again is.placed;
    })

pub invariant_of-self-in_err-restart : goal.invariant_of-self-in_err-restart
invariant_of-self-in_err-restart c =
    let old : Core = view c.self.inside in
    let shard = c.args.shard in
    let within : IsShard (shape_of old) shard = rw (← c.self.view_is) at c.requires in
    let is = c.self.invariant in
    let g : Group = c.on_view-told.new.self in
    let item : c.index_mut-group.result.now ≡ group_of shard old = grind (arith, common_steps) in
    let kept : KeepsFront (group_of shard old) g = rw (← item) c.on_view-told.ensures.kept in
    let renews : Renews old.members g old.progress.rejoins shard c.self.inside.steps.items c.renew_steps.new.steps.items = rw (← c.as_slice.ensures.value) c.renew_steps.ensures.renewed in
    rw c.from-place.ensures (record {
      kept = core_after old _ shard g is.kept within kept refl refl refl (length-set c.self.inside.viewed.items shard false) refl refl;
      fronts = fronts_after old _ shard g c.self.inside.fronts.items is.kept within is.fronts kept refl refl;
      steps = steps_after old _ shard g c.self.inside.steps.items _ is.kept (core_after old _ shard g is.kept within kept refl refl refl (length-set c.self.inside.viewed.items shard false) refl refl) within is.steps refl refl renews (λ k d. refl);
      sessions = is.sessions;
      journal = is.journal;
      placed = within_none (shape_of old).shards c.restart.new.self c.in_err-restart.ensures.none;
    })

pub returns-clause-ok : goal.returns-clause-ok
returns-clause-ok c =
    let old : Core = view c.self.inside in
    let shard = c.args.shard in
    let within : IsShard (shape_of old) shard = rw (← c.self.view_is) at c.requires in
    let is = c.self.invariant in
    let was : Group = group_of shard old in
    let item : c.index_mut-group.result.now ≡ was = grind (arith, common_steps) in
    let group : c.on_view-told.new.self ≡ on_view old.members was = c.in-Ok.ensures.ok ∙ ap (on_view old.members) item in
    let pool : c.on_view-told.new.pool ≡ send_all (view_messages old.members was) old.pool = c.in-Ok.ensures.sends ∙ ap (λ x. send_all (view_messages old.members x) old.pool) item in
    let view = kind.View (view_of was.shard old.members) in
    let number : c.last_number-number.result ≡ last_number (renew old.members was) + 1 = c.last_number-number.ensures ∙ ap last_number group ∙ proposed_number view (renew old.members was) in
    let last : c.last_number-number.result - 1 ≡ last_number (renew old.members was) = omega (arith, number) in
    let again : c.restart.new.self ≡ map (λ e. (e.0, restarted shard (last_number (renew old.members was)) e.1)) old.operations
    = c.in_ok-restart.ensures.ok ∙ ap (λ n. map (λ e. (e.0, restarted shard n e.1)) old.operations) (c.saturating_sub.ensures ∙ last) in
    rw (← c.self.view_is) (rw (c.from-place.ensures, group, pool, again) refl)
