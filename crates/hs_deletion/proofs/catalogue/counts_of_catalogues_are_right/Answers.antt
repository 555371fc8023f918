use Rattle.hs_deletion.proofs.HistoryKeeps.{right_made}
use Rattle.hs_deletion.proofs.FollowCounts.{counts_follow}
use Rattle.hs_deletion.proofs.catalogue.counts_of_catalogues_are_right.Goals as goal

pub returns : goal.returns
returns c = record { counts = λ layout m catalogues f. counts_follow layout m (right_made layout m f.made) catalogues f.each }
