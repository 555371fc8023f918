use Rattle.hs_deletion.proofs.HistoryKeeps.{at_the_last, right_made}
use Rattle.hs_deletion.proofs.SweepLemmas.{removes_exactly}
use Rattle.hs_deletion.proofs.sweep.a_sweep_removes_exactly_the_unreached.Goals as goal

pub returns : goal.returns
returns c = record { exact = λ layout m made shard may e. rw e (removes_exactly layout m (right_made layout m made) shard (at_the_last layout m shard may e)) }
