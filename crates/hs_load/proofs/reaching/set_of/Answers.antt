use Rattle.std.proofs.Common.{arith, false}
use Rattle.std.proofs.lemmas.Grind.{common_steps}
use Rattle.hs_model.specs.Reach.{is_among}
use Rattle.hs_model.proofs.SetLemmas.{add_step, keys_more}
use Rattle.hs_load.proofs.reaching.set_of.Goals as goal

pub loop-address-preserved : goal.loop-address-preserved
loop-address-preserved c =
    add_step (is_among c.loop-address.set.keys) (λ q. false) (is_among c.insert.new.self.keys) c.args.addresses.now c.loop-address.address-index _ (omega arith) (grind (arith, common_steps)) (keys_more c.loop-address.set.keys c.insert.new.self.keys _ c.in_ok-insert.ensures.updates.0) c.loop-address.invariant
