use Rattle.hs_moments.proofs.sane.what_opens_is_sane.Goals as goal
use Rattle.hs_moments.proofs.OpeningLemmas.{opening_is_sane}

pub returns : goal.returns
returns c = opening_is_sane
