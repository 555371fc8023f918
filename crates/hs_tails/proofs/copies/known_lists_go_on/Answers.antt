use Rattle.hs_tails.proofs.GoingLemmas.{known_goes_on}
use Rattle.hs_tails.proofs.copies.known_lists_go_on.Goals as goal

pub returns : goal.returns
returns c = λ by start old new cs taken shard copies later a b stood all list known has. known_goes_on by start old new cs taken.gone shard copies later a b stood (taken.first shard) all list known has
