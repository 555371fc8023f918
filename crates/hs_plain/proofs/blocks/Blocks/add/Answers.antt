use Rattle.std.proofs.Common.{◌≡◌, ◌+◌, ◌∙◌, arith, None}
use Rattle.std.proofs.lemmas.Grind.{common_steps}
use Rattle.std.proofs.lemmas.List.{length-set}
use Rattle.std.specs.BTreeMap.{is_at}
use Rattle.std.specs.Map.{lookup}
use Rattle.hs_limits.specs.Shape.{shard_of}
use Rattle.hs_model.specs.Store.{address_cmp}
use Rattle.hs_plain.proofs.CountLemmas.{counts-inserted, shard_below}
use Rattle.hs_plain.proofs.blocks.Blocks.add.Goals as goal

pub invariant_of-self-2 : goal.invariant_of-self-2
invariant_of-self-2 c =
    let counts = c.self.inside.counts.items in
    let none : lookup (is_at (address_cmp c.args.address)) c.self.inside.items.entries ≡ None = grind (arith, common_steps) in
    let place = c.from-shard.ensures ∙ c.shard_of.ensures in
    let below = shard_below c.self.inside.shape counts c.from-shard.result _ c.self.invariant.shape c.self.invariant.shards place in
    let one : c.in-Some.count ≡ c.index.result.now + 1 = grind (arith, common_steps) in
    record {
      shape = c.self.invariant.shape;
      shards = length-set counts c.from-shard.result c.in-Some.count ∙ c.self.invariant.shards;
      counts = counts-inserted (shard_of c.self.inside.shape.shards) address_cmp c.self.inside.items.entries c.insert.new.self.entries c.args.address c.args.stored counts c.from-shard.result c.index.result.now c.in-Some.count none c.self.invariant.counts place below c.index.ensures one c.in_ok-insert.ensures.entries;
    }
