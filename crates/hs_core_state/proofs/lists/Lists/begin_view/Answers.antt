use Rattle.std.proofs.Common.{◌≡◌, ◌∙◌, sym, ap, refl, arith, ◌<◌, List, [], length, map, Some, false, slice_index_or, slice_set}
use Rattle.std.proofs.lemmas.Grind.{common_steps}
use Rattle.std.proofs.lemmas.List.{length-set}
use Rattle.hs_core_state.specs.Anew.{view_tasks, with_lists}
use Rattle.hs_core_words.specs.State.{Core}
use Rattle.hs_members.specs.Members.{lead_by, view_of}
use Rattle.hs_replica.specs.Group.{Group, last_number, new_group, on_view, send_all, view_messages}
use Rattle.hs_core_state.proofs.ViewLemmas.{anew_of_all, viewed_known}
use Rattle.hs_core_state.proofs.lists.Lists.begin_view.Goals as goal

pub returns-in_default-clause-all : goal.returns-in_default-clause-all
returns-in_default-clause-all c =
    let l = c.args.self.now in
    let g : Group = slice_index_or l.groups.items c.args.shard (new_group l.members.shape c.args.shard 0 0 []) in
    let item : c.index_mut-group.result.now ≡ g = grind (arith, common_steps) in
    let new : c.renew_group.new.group ≡ on_view l.members g = c.in_ok-lead.ensures.group ∙ ap (on_view l.members) item in
    rw (c.from-place.ensures, new) (anew_of_all l.members l.groups.items l.fronts.items l.viewed.items (slice_set l.viewed.items c.args.shard false) l.tasks.items l.tasks.items c.args.shard c.requires.all c.requires.shard (length-set l.viewed.items c.args.shard false) refl)

pub returns-in_ok-add_view_tasks-clause-all : goal.returns-in_ok-add_view_tasks-clause-all
returns-in_ok-add_view_tasks-clause-all c =
    let l = c.args.self.now in
    let g : Group = slice_index_or l.groups.items c.args.shard (new_group l.members.shape c.args.shard 0 0 []) in
    let item : c.index_mut-group.result.now ≡ g = grind (arith, common_steps) in
    let new : c.renew_group.new.group ≡ on_view l.members g = c.in_ok-lead.ensures.group ∙ ap (on_view l.members) item in
    let tasks = slice_set l.tasks.items c.from.result c.add_view_tasks.new.tasks in
    rw (c.from-place.ensures, new) (anew_of_all l.members l.groups.items l.fronts.items l.viewed.items (slice_set l.viewed.items c.args.shard false) l.tasks.items tasks c.args.shard c.requires.all c.requires.shard (length-set l.viewed.items c.args.shard false) (length-set l.tasks.items c.from.result c.add_view_tasks.new.tasks))

pub returns-in_ok-add_view_tasks-clause-ok : goal.returns-in_ok-add_view_tasks-clause-ok
returns-in_ok-add_view_tasks-clause-ok c core e =
    let l = c.args.self.now in
    let shard = c.args.shard in
    let peer = c.in-Some.lead in
    let g : Group = slice_index_or l.groups.items shard (new_group l.members.shape shard 0 0 []) in
    let item : c.index_mut-group.result.now ≡ g = grind (arith, common_steps) in
    let new : c.renew_group.new.group ≡ on_view l.members g = c.in_ok-lead.ensures.group ∙ ap (on_view l.members) item in
    let pool : c.renew_group.new.pool ≡ send_all (view_messages l.members g) l.pool = c.in_ok-lead.ensures.pool ∙ ap (λ x. send_all (view_messages l.members x) l.pool) item in
    let lead : lead_by shard (map (λ copy. length copy.stamps) g.copies) l.members ≡ Some peer = ap (λ x. lead_by shard (map (λ copy. length copy.stamps) x.copies) l.members) (sym item) ∙ sym c.in_ok-lead.ensures.lead ∙ c.in-Some.is in
    let number : c.in_ok-lead.number ≡ last_number (on_view l.members g) = c.in_ok-lead.ensures.number ∙ ap (λ x. last_number (on_view l.members x)) item in
    let within : peer < length l.tasks.items = grind (arith, common_steps) in
    let tasks : c.add_view_tasks.new.tasks ≡ view_tasks (last_number (on_view l.members g)) (view_of shard l.members) (slice_index_or l.tasks.items peer []) = grind (arith, common_steps, number) in
    rw (c.from-place.ensures, c.from.ensures, new, pool, tasks) (sym (viewed_known shard peer (with_lists l core) g refl lead within))
