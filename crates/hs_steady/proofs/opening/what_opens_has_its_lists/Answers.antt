use Rattle.hs_steady.proofs.OpenedLemmas.{opens_lists}
use Rattle.hs_steady.proofs.opening.what_opens_has_its_lists.Goals as goal

pub returns : goal.returns
returns c = λ set found may on. opens_lists set found may on
