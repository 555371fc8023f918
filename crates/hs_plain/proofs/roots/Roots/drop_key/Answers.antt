use Rattle.std.proofs.Common.{◌≡◌, ◌-◌, ◌∙◌, List, [], ◌∷◌, ◌++◌, sym, ap, Some, refl, rules}
use Rattle.std.proofs.lemmas.List.{length-set}
use Rattle.std.specs.BTreeMap.{is_at}
use Rattle.std.specs.Map.{lookup}
use Rattle.hs_limits.specs.Shape.{shard_of_key}
use Rattle.hs_plain.specs.declared.roots.DroppedRoot.{DroppedRoot}
use Rattle.hs_plain.specs.RootWords.{roots_of}
use Rattle.hs_model.specs.Store.{text_cmp}
use Rattle.hs_plain.proofs.CountLemmas.{some_counted, counts-removed, shard_below}
use Rattle.hs_plain.proofs.RootLemmas.{key_from_at, not_dropped, dropped_is}
use Rattle.hs_plain.proofs.roots.Roots.drop_key.Goals as goal

pub returns-in_default-clause-roots : goal.returns-in_default-clause-roots
returns-in_default-clause-roots c =
    let none = sym (c.copied.ensures ∙ c.get.ensures.value) ∙ c.in_default.is in
    rw (← c.self.view_is) (not_dropped c.args.key.now c.args.epoch c.self.inside.kept.entries c.self.inside.gone.items c.self.invariant.ascending none)

pub overflow_sub-index_mut : goal.overflow_sub-index_mut
overflow_sub-index_mut c =
    let found : lookup (is_at (text_cmp c.args.key.now)) c.self.inside.kept.entries ≡ Some c.in-Some.address = sym (c.copied.ensures ∙ c.get.ensures.value) ∙ c.in-Some.is in
    let place = c.from-shard.ensures ∙ c.shard_of_key.ensures in
    let below = shard_below c.self.inside.shape c.self.inside.counts.items c.from-shard.result _ c.self.invariant.shape c.self.invariant.shards place in
    some_counted (shard_of_key c.self.inside.shape.shards) (is_at (text_cmp c.args.key.now)) c.self.inside.kept.entries c.args.key.now c.in-Some.address c.self.inside.counts.items c.from-shard.result c.index_mut.result.now (key_from_at c.args.key.now) found c.self.invariant.counts place below c.index_mut.ensures.value

pub invariant_of-self-2 : goal.invariant_of-self-2
invariant_of-self-2 c =
    let counts = c.self.inside.counts.items in
    let found : lookup (is_at (text_cmp c.args.key.now)) c.self.inside.kept.entries ≡ Some c.in-Some.address = sym (c.copied.ensures ∙ c.get.ensures.value) ∙ c.in-Some.is in
    let place = c.from-shard.ensures ∙ c.shard_of_key.ensures in
    let below = shard_below c.self.inside.shape counts c.from-shard.result _ c.self.invariant.shape c.self.invariant.shards place in
    record {
      shape = c.self.invariant.shape;
      shards = length-set counts c.from-shard.result (c.index_mut.result.now - 1) ∙ c.self.invariant.shards;
      ascending = search rules;
      counts = counts-removed (shard_of_key c.self.inside.shape.shards) (is_at (text_cmp c.args.key.now)) c.self.inside.kept.entries c.remove.new.self.entries c.args.key.now c.in-Some.address counts c.from-shard.result c.index_mut.result.now (key_from_at c.args.key.now) found c.self.invariant.counts place below c.index_mut.ensures.value c.remove.ensures.entries;
    }

pub returns-clause-roots : goal.returns-clause-roots
returns-clause-roots c =
    let key = c.args.key.now in
    let gone = c.self.inside.gone.items in
    let root : DroppedRoot = record { key = c.in_ok-copy.field-0; address = c.in-Some.address; epoch = c.args.epoch } in
    let found : lookup (is_at (text_cmp key)) c.self.inside.kept.entries ≡ Some c.in-Some.address = sym (c.copied.ensures ∙ c.get.ensures.value) ∙ c.in-Some.is in
    let pushed : c.push.new.self.items ≡ gone ++ root ∷ [] = c.in_ok-push.ensures.items in
    let dropped = dropped_is key c.in-Some.address c.args.epoch c.self.inside.kept.entries c.remove.new.self.entries gone root c.self.invariant.ascending found c.remove.ensures.entries c.remove.ensures.ordered c.remove.ensures.updates.1 c.in_ok-copy.ensures refl refl in
    rw (← c.self.view_is) (ap (λ (z : List DroppedRoot). roots_of c.remove.new.self.entries z) pushed ∙ dropped)
