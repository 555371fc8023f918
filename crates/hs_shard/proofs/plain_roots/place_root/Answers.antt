use Rattle.std.proofs.Common.{List, rules, sym, ap, subst, ◌∙◌}
use Rattle.std.proofs.lemmas.List.Sorted.{IsPartitionPoint-from_clause}
use Rattle.std.specs.List.{insert}
use Rattle.hs_model.specs.declared.plain.PlainRoot.{PlainRoot}
use Rattle.hs_model.specs.Plain.{root_of}
use Rattle.hs_model.specs.Store.{place_root}
use Rattle.hs_shard.specs.Adding.{RiseInOrder, listed_roots}
use Rattle.hs_shard.proofs.PlainLemmas.{after_is_front, is_after, placed_at, placed_rise}
use Rattle.hs_shard.proofs.plain_roots.place_root.Goals as goal

pub returns-clause-placed : goal.returns-clause-placed
returns-clause-placed c =
    let rise : RiseInOrder c.as_slice.result.now = subst (λ (z : List PlainRoot). RiseInOrder z) (sym c.as_slice.ensures.value) c.requires in
    let point = IsPartitionPoint-from_clause (λ other. is_after c.args.root other) _ _ c.partition_point-place.ensures.partitioned (after_is_front c.args.root c.as_slice.result.now rise) (λ a r q k. search rules) in
    ap (λ (z : List PlainRoot). listed_roots z) c.in_ok-insert.ensures.items
    ∙ ap (λ (z : List PlainRoot). listed_roots (insert z c.partition_point-place.result c.args.root)) (sym c.as_slice.ensures.value)
    ∙ placed_at c.args.root c.as_slice.result.now c.partition_point-place.result c.partition_point-place.ensures.bound point.0 point.1
    ∙ ap (λ (z : List PlainRoot). place_root (root_of c.args.root) (listed_roots z)) c.as_slice.ensures.value

pub returns-clause-ordered : goal.returns-clause-ordered
returns-clause-ordered c = placed_rise c.args.roots.now.items c.insert.new.self.items c.args.root c.requires (returns-clause-placed c)
