use Rattle.hs_copies.proofs.ImageLemmas.{fine_after}
use Rattle.hs_copies.proofs.stop.images_are_fronts.Goals as goal

pub returns : goal.returns
returns c = record { kept = λ s q l event r f a t. fine_after s r q l f event a t }
