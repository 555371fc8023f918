use Rattle.hs_deletion.proofs.HistoryKeeps.{right_made}
use Rattle.hs_deletion.proofs.zero.each_unreached_block_is_found.Goals as goal

pub returns : goal.returns
returns c = record { found = λ layout m made. (right_made layout m made).exact_zero }
