use Rattle.hs_joint.proofs.HistoryLemmas.{shape_few, history_goes}
use Rattle.hs_joint.proofs.joined.folds_follow_the_machine.Goals as goal

pub returns : goal.returns
returns c = record { joined = λ set history some shape fit records. (let g = history_goes set some (shape_few set.shape shape) history fit records in (g.later, g.standing.joined)) }
