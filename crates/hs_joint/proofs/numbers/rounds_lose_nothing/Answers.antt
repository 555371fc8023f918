use Rattle.hs_deletion.specs.Machine.{empty_machine}
use Rattle.hs_fold.specs.Runs.History.{no_entries}
use Rattle.hs_joint.proofs.HistoryLemmas.{shape_some, shape_few, empty_standing}
use Rattle.hs_joint.proofs.NumberLemmas.{each_loses}
use Rattle.hs_joint.proofs.numbers.rounds_lose_nothing.Goals as goal

pub returns : goal.returns
returns c = record { each = λ set history shape fit records. each_loses set (shape_some set.shape shape) (shape_few set.shape shape) history (no_entries set) empty_machine (empty_standing set (shape_some set.shape shape)) fit records }
