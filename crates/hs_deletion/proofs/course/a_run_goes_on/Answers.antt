use Rattle.hs_deletion.proofs.HistoryKeeps.{right_made}
use Rattle.hs_deletion.proofs.CourseLemmas.{goes_on}
use Rattle.hs_deletion.proofs.course.a_run_goes_on.Goals as goal

pub returns : goal.returns
returns c = record { on = λ layout m made shard l run. goes_on layout m (right_made layout m made).clocks shard l run }
