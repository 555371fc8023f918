use Rattle.hs_clauses.proofs.ImageLemmas.{good_count}
use Rattle.hs_clauses.proofs.images.images_of_good_peers_count.Goals as goal
use Rattle.hs_promise.specs.Stops.{stop_at}

pub returns : goal.returns
returns c = λ S r moment images one disks count each. good_count S.set.shape (stop_at S r moment) images one disks count each
