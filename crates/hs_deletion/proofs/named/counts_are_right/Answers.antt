use Rattle.hs_deletion.proofs.HistoryKeeps.{right_made}
use Rattle.hs_deletion.proofs.named.counts_are_right.Goals as goal

pub returns : goal.returns
returns c = record { counts = λ layout m made. (right_made layout m made).counts }
