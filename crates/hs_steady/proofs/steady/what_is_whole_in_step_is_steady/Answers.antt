use Rattle.hs_steady.proofs.SteadyLemmas.{steady}
use Rattle.hs_steady.proofs.steady.what_is_whole_in_step_is_steady.Goals as goal

pub returns : goal.returns
returns c = λ c machines w. steady c machines w
