use Rattle.hs_standing.specs.Stands.{GoodPeersCount}
use Rattle.hs_standing.proofs.ImageLemmas.{good_image_is_log}
use Rattle.hs_standing.proofs.images.good_images_are_logs.Goals as goal

pub returns : goal.returns
returns c = record { logs = λ machine start stop journal images peer low at good. good_image_is_log machine (GoodPeersCount machine) start stop journal at images peer low at.tells.sane good }
