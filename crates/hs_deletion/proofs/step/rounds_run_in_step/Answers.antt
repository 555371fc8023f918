use Rattle.hs_deletion.proofs.HistoryKeeps.{right_made}
use Rattle.hs_deletion.proofs.ClockLemmas.{near, sent_near}
use Rattle.hs_deletion.proofs.step.rounds_run_in_step.Goals as goal

pub returns : goal.returns
returns c = record {
  step = λ layout m made. let right = right_made layout m made in record {
    epochs = near layout m.states right.clocks;
    sent = sent_near layout m.states right.clocks;
    silent = λ shard n l le. (right.clocks shard l).unsent n le;
  };
}
