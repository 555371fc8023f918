use Rattle.std.proofs.Common.{arith}
use Rattle.std.proofs.lemmas.Grind.{common_steps}
use Rattle.hs_model.specs.Reach.{is_among}
use Rattle.hs_model.proofs.SetLemmas.{add_step, keys_more}
use Rattle.hs_model.proofs.slow.peeling.add.Goals as goal

pub loop-address-preserved : goal.loop-address-preserved
loop-address-preserved c =
    add_step (is_among c.loop-address.set.keys) (is_among c.args.set.now.keys) (is_among c.insert.new.self.keys) c.args.addresses.now c.loop-address.address-index _ (omega arith) (grind (arith, common_steps)) (keys_more c.loop-address.set.keys c.insert.new.self.keys _ c.in_ok-insert.ensures.updates.0) c.loop-address.invariant
