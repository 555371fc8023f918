use Rattle.std.proofs.Common.{◌∙◌, sym, arith}
use Rattle.std.proofs.lemmas.Grind.{common_steps}
use Rattle.hs_plain.proofs.HoldLemmas.{holds_one_more, holds_no_more, range_one_more}
use Rattle.hs_plain.proofs.seat.Seat.hold_each.Goals as goal

pub loop-address-preserved : goal.loop-address-preserved
loop-address-preserved c = record {
  numbers = grind (arith, common_steps, range_one_more);
  next = grind (arith, common_steps);
  holds = grind (arith, common_steps, holds_one_more);
}

pub returns-clause-holds : goal.returns-clause-holds
returns-clause-holds c =
    sym (holds_no_more c.args.addresses.now c.args.epoch c.loop-address.self c.loop-address.address-index (omega arith)) ∙ c.loop-address.invariant.holds
