use Rattle.std.proofs.Common.{◌≡◌, ◌∷◌}
use Rattle.std.proofs.lemmas.Map.Iter.{rest_more}
use Rattle.std.specs.Map.Iter.{deref_pair}
use Rattle.hs_model.proofs.SetLemmas.{pointing_turn}
use Rattle.hs_plain.proofs.memory_store.sweep.pointing.Goals as goal

pub loop-address-preserved-in_ok-insert : goal.loop-address-preserved-in_ok-insert
loop-address-preserved-in_ok-insert c =
    let more : c.loop-address.address-iterator ≡ (c.in-Some.address.now, c.in-Some.stored.now) ∷ c.next.new.self = rest_more deref_pair c.loop-address.address-iterator c.next.new.self c.next.result (c.in-Some.address, c.in-Some.stored) c.in-Some.is c.next.ensures.steps in
    pointing_turn c.args.blocks.now.entries c.loop-address.address-iterator c.next.new.self c.loop-address.pointing.entries c.insert.new.self.entries c.in-Some.address.now c.in-Some.stored.now c.in_ok-copy.field-0 c.into_iter-address-iterator.ensures.into_iter_gives.5 c.loop-address.invariant more c.in_ok-insert.ensures.entries c.in_ok-copy.ensures

pub loop-address-preserved : goal.loop-address-preserved
loop-address-preserved c =
    let more : c.loop-address.address-iterator ≡ (c.in-Some.address.now, c.in-Some.stored.now) ∷ c.next.new.self = rest_more deref_pair c.loop-address.address-iterator c.next.new.self c.next.result (c.in-Some.address, c.in-Some.stored) c.in-Some.is c.next.ensures.steps in
    pointing_turn c.args.blocks.now.entries c.loop-address.address-iterator c.next.new.self c.loop-address.pointing.entries c.insert.new.self.entries c.in-Some.address.now c.in-Some.stored.now c.in_ok-copy.field-0 c.into_iter-address-iterator.ensures.into_iter_gives.5 c.loop-address.invariant more c.in_ok-insert.ensures.entries c.in_ok-copy.ensures
