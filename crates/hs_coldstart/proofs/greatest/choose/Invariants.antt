use Rattle.hs_coldstart.proofs.ChooseLemmas.{IsSoFar}
use Rattle.hs_coldstart.proofs.greatest.choose.Given as goal

abbrev pub invariant-loop-place : goal.invariant-loop-place
invariant-loop-place l = IsSoFar l.ranks l.place l.best
