use Rattle.std.proofs.Common.{◌≡◌, arith, ◌*◌, [], false, map, replicate}
use Rattle.std.proofs.lemmas.Grind.{common_steps}
use Rattle.std.specs.List.{range_with_len}
use Rattle.hs_members.specs.Members.{members_at}
use Rattle.hs_core_state.proofs.OpenLemmas.{new_groups, new_of_all}
use Rattle.hs_core_state.proofs.new_lists.new_lists.Goals as goal

pub returns-clause-all : goal.returns-clause-all
returns-clause-all c =
    let a = c.args in
    let m : c.in_ok-new.field-0 ≡ members_at a.shape c.as_slice-2.result.now a.good.now = c.in_ok-new.ensures in
    let g : c.in_ok-groups.groups.items ≡ map (new_groups a.shape a.views.now a.lengths.items a.good.now) (range_with_len 0 a.shape.shards) = grind (arith, common_steps) in
    let v : c.in_ok-vec.field-0.items ≡ replicate a.shape.shards false = grind (arith, common_steps) in
    let t : c.in_ok-no_tasks.field-0.items ≡ replicate (a.shape.shards * a.shape.copies) [] = grind (arith, common_steps) in
    rw (m, g, v, t) (new_of_all a.shape c.as_slice-2.result.now a.views.now a.lengths.items a.good.now c.requires.shape c.requires.lengths c.requires.good)
