use Rattle.hs_joint.proofs.HistoryLemmas.{shape_some, shape_few, history_goes}
use Rattle.hs_joint.proofs.along.histories_do_their_part.Goals as goal

pub returns : goal.returns
returns c = record { each = λ set history shape fit records. (history_goes set (shape_some set.shape shape) (shape_few set.shape shape) history fit records).parts }
