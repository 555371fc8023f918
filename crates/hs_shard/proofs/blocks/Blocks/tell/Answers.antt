use Rattle.std.proofs.Common.{◌∙◌}
use Rattle.hs_shard.proofs.TallyLemmas.{tell_more}
use Rattle.hs_shard.proofs.blocks.Blocks.tell.Goals as goal

pub loop-address-preserved : goal.loop-address-preserved
loop-address-preserved c =
    tell_more c.args.addresses.now c.loop-address.address-index c.args.self.now c.loop-address.tally c.tell_one.new.tally _ c.loop-address-test.true c.in_ok-tell_one.ensures ∙ c.loop-address.invariant
