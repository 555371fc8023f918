use Rattle.std.proofs.Common.{◌≡◌, ℕ, ◌+◌, ◌∙◌, sym, ap, List, arith, is_some, true, None}
use Rattle.std.proofs.lemmas.Grind.{common_steps}
use Rattle.std.proofs.lemmas.List.{length-set}
use Rattle.std.specs.BTreeMap.{is_at}
use Rattle.std.specs.Map.{lookup}
use Rattle.hs_limits.specs.Shape.{shard_of_key}
use Rattle.hs_limits.specs.declared.address.Address.{Address}
use Rattle.hs_plain.specs.RootWords.{roots_of}
use Rattle.hs_model.specs.Store.{text_cmp}
use Rattle.hs_plain.proofs.CountLemmas.{counts-inserted, shard_below}
use Rattle.hs_plain.proofs.RootLemmas.{kept_already, kept_newly}
use Rattle.hs_plain.proofs.roots.Roots.keep.Goals as goal

pub returns-then-contains_key-clause-roots : goal.returns-then-contains_key-clause-roots
returns-then-contains_key-clause-roots c =
    let found : is_some (lookup (is_at (text_cmp c.args.key)) c.self.inside.kept.entries) ≡ true = sym c.contains_key.ensures ∙ c.if-contains_key.true in
    rw (← c.self.view_is) (kept_already c.args.key c.args.address c.self.inside.kept.entries c.self.inside.gone.items c.self.invariant.ascending found)

pub invariant_of-self-2 : goal.invariant_of-self-2
invariant_of-self-2 c =
    let counts = c.self.inside.counts.items in
    let none : lookup (is_at (text_cmp c.args.key)) c.self.inside.kept.entries ≡ None = grind (arith, common_steps) in
    let place = c.from-shard.ensures ∙ c.shard_of_key.ensures in
    let below = shard_below c.self.inside.shape counts c.from-shard.result _ c.self.invariant.shape c.self.invariant.shards place in
    let one : c.in-Some.count ≡ c.index.result.now + 1 = grind (arith, common_steps) in
    record {
      shape = c.self.invariant.shape;
      shards = length-set counts c.from-shard.result c.in-Some.count ∙ c.self.invariant.shards;
      ascending = c.in_ok-insert.ensures.ordered;
      counts = counts-inserted (shard_of_key c.self.inside.shape.shards) text_cmp c.self.inside.kept.entries c.insert.new.self.entries c.args.key c.args.address counts c.from-shard.result c.index.result.now c.in-Some.count none c.self.invariant.counts place below c.index.ensures one c.in_ok-insert.ensures.entries;
    }

pub returns-clause-roots : goal.returns-clause-roots
returns-clause-roots c =
    let none : lookup (is_at (text_cmp c.args.key)) c.self.inside.kept.entries ≡ None = grind (arith, common_steps) in
    rw (← c.self.view_is) (ap (λ (z : List (List ℕ × Address)). roots_of z c.self.inside.gone.items) c.in_ok-insert.ensures.entries ∙ kept_newly c.args.key c.args.address c.self.inside.kept.entries c.self.inside.gone.items c.self.invariant.ascending none)
