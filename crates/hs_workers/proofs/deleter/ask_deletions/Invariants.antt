use Rattle.hs_workers.proofs.AskLemmas.{Deletes}
use Rattle.hs_workers.proofs.deleter.ask_deletions.Given as goal

abbrev pub invariant-loop-turn : goal.invariant-loop-turn
invariant-loop-turn g l =
    let noted = g.B.Pass.Pass.noted in
    Deletes (noted l.fn.pass) (noted l.pass) l.turn
