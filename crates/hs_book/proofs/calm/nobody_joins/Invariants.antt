use Rattle.hs_book.proofs.JoiningLemmas.{AreCalm}
use Rattle.hs_book.proofs.calm.nobody_joins.Given as goal

abbrev pub invariant-loop-peer : goal.invariant-loop-peer
invariant-loop-peer l = AreCalm l.peer l.core
