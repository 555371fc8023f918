use Rattle.std.proofs.Common.{◌∙◌, sym}
use Rattle.hs_events.specs.Due.{turn_of}
use Rattle.hs_events.proofs.RangeLemmas.{first_range_found}
use Rattle.hs_events.proofs.due.first_turn.Goals as goal

pub returns-in-Some-clause-value : goal.returns-in-Some-clause-value
returns-in-Some-clause-value c =
    sym (first_range_found (turn_of c.args.core.now) c.loop-peer.peer c.args.to c.in-Some.due c.loop-peer-test.true (sym c.turn_of.ensures.value ∙ c.in-Some.is))
    ∙ c.loop-peer.invariant
