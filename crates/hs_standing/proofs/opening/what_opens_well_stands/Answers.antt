use Rattle.hs_standing.proofs.OpeningLemmas.{opened_stands}
use Rattle.hs_standing.specs.Standing.{CoreStands}
use Rattle.hs_standing.proofs.opening.what_opens_well_stands.Goals as goal

pub returns : goal.returns
returns c = λ start found opens stands. (opened_stands start found opens (λ core cs. CoreStands start core cs) (λ core cs h. h) c.answers_stay_in_order.ensures.opens stands).whole
