use Rattle.hs_standing.proofs.AlongOpenLemmas.{opens_core}
use Rattle.hs_standing.proofs.walk.opening_keeps_it.Goals as goal

pub returns : goal.returns
returns c = λ tests shape limits found moment kept holds. opens_core kept shape limits found moment holds
