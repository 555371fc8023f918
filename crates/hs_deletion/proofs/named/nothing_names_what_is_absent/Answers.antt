use Rattle.hs_deletion.proofs.HistoryKeeps.{right_made}
use Rattle.hs_deletion.proofs.PromiseLemmas.{absent_is_unnamed}
use Rattle.hs_deletion.proofs.named.nothing_names_what_is_absent.Goals as goal

pub returns : goal.returns
returns c = record { unnamed = λ layout m a made absent. absent_is_unnamed layout m (right_made layout m made) a absent }
