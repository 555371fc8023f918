use Rattle.hs_deletion.proofs.HistoryKeeps.{right_made}
use Rattle.hs_deletion.proofs.zero.no_reached_block_is_a_wrong_zero.Goals as goal

pub returns : goal.returns
returns c = record { none = λ layout m made. (right_made layout m made).no_wrong_zero }
