use Rattle.std.proofs.Common.{◌+◌, drop, ap, sym, ◌∙◌}
use Rattle.std.proofs.lemmas.List.{at_drop_more}
use Rattle.hs_shard.specs.Tally.{count_all}
use Rattle.hs_shard.proofs.tally.Tally.add_all.Goals as goal

pub loop-address-preserved : goal.loop-address-preserved
loop-address-preserved c =
    ap (λ counts. count_all (drop (c.loop-address.address-index + 1) c.args.addresses.now) counts) c.in_ok-add.ensures
    ∙ sym (at_drop_more (λ as'. count_all as' c.loop-address.self) c.args.addresses.now c.loop-address.address-index _ c.loop-address-test.true)
    ∙ c.loop-address.invariant
