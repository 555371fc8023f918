use Rattle.std.proofs.Common.{◌+◌, drop, ap, sym, ◌∙◌}
use Rattle.std.proofs.lemmas.List.{at_drop_more}
use Rattle.hs_shard.specs.Listed.{stand_each}
use Rattle.hs_shard.proofs.blocks.Blocks.stand_each.Goals as goal

pub loop-address-preserved : goal.loop-address-preserved
loop-address-preserved c =
    ap (λ bs. stand_each c.args.counted c.args.zero (drop (c.loop-address.address-index + 1) c.args.addresses.now) bs) c.in_ok-stand.ensures
    ∙ sym (at_drop_more (λ as'. stand_each c.args.counted c.args.zero as' c.loop-address.self) c.args.addresses.now c.loop-address.address-index _ c.loop-address-test.true)
    ∙ c.loop-address.invariant
