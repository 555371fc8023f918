use Rattle.hs_standing.proofs.AlongWalkLemmas.{copies_step}
use Rattle.hs_standing.proofs.walk.each_event_keeps_it.Goals as goal

pub returns : goal.returns
returns c = λ tests core event moment kept views going seated known room none granted holds. copies_step kept core views event moment going seated known room none granted holds
