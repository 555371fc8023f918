use Rattle.std.proofs.Common.{◌+◌, drop, ap, sym, ◌∙◌}
use Rattle.std.proofs.lemmas.List.{at_drop_more}
use Rattle.hs_shard.specs.Listed.{remove_each}
use Rattle.hs_shard.proofs.blocks.Blocks.remove_each.Goals as goal

pub loop-address-preserved : goal.loop-address-preserved
loop-address-preserved c =
    ap (λ bs. remove_each (drop (c.loop-address.address-index + 1) c.args.addresses.now) bs) c.remove.ensures
    ∙ sym (at_drop_more (λ as'. remove_each as' c.loop-address.self) c.args.addresses.now c.loop-address.address-index _ c.loop-address-test.true)
    ∙ c.loop-address.invariant
