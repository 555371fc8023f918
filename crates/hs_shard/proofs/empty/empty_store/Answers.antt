use Rattle.std.proofs.Common.{arith, map, subst, sym, List}
use Rattle.std.proofs.lemmas.Grind.{common_steps}
use Rattle.std.specs.List.Sorted.{IsStrictlySortedBy}
use Rattle.std.specs.Map.{keys_of}
use Rattle.hs_shard.proofs.PlainLemmas.{sorted_none}
use Rattle.hs_limits.specs.declared.address.Held.{Held}
use Rattle.hs_model.specs.declared.plain.PlainBlock.{PlainBlock}
use Rattle.hs_model.specs.Plain.{entry_of}
use Rattle.hs_model.specs.Store.{address_cmp}
use Rattle.hs_shard.proofs.empty.empty_store.Goals as goal

pub returns-clause-plain : goal.returns-clause-plain
returns-clause-plain c = record {
  shape = c.requires;
  epochs = grind (arith, common_steps);
  swept = grind (arith, common_steps);
  blocks = subst (λ (z : List PlainBlock). IsStrictlySortedBy address_cmp (keys_of (map entry_of z))) (sym c.new.ensures) sorted_none;
  given = subst (λ (z : List Held). IsStrictlySortedBy address_cmp (keys_of (map (λ (held : Held). (held.address, held.epoch)) z))) (sym c.new-2.ensures) sorted_none;
  roots = grind (arith, common_steps);
}
