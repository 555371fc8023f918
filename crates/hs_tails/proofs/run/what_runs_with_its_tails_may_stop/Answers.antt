use Rattle.hs_tails.proofs.StandsLemmas.{tails_stand}
use Rattle.hs_tails.proofs.run.what_runs_with_its_tails_may_stop.Goals as goal

pub returns : goal.returns
returns c = λ start stop whole may. tails_stand start whole may.runs.runs stop may.begun may.runs.keeps.lines
