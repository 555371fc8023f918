use Rattle.std.proofs.Common.{arith}
use Rattle.hs_workers.proofs.AskLemmas.{deletes_more, one_of_four}
use Rattle.hs_workers.proofs.deleter.ask_deletions.Goals as goal

pub loop-turn-preserved : goal.loop-turn-preserved
loop-turn-preserved g c =
    deletes_more _ _ _ _ _ _ c.loop-turn.invariant (one_of_four c.loop-turn.turn (let below = c.loop-turn-test.true in omega arith)) c.ask.ensures c.in_ok-ask.was
