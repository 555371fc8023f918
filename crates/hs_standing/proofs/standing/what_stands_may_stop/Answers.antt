use Rattle.hs_standing.proofs.StandLemmas.{whole_stands}
use Rattle.hs_standing.proofs.standing.what_stands_may_stop.Goals as goal

pub returns : goal.returns
returns c = λ start stop whole stands begun. whole_stands start whole stands stop begun c.no_line_waits_twice.ensures
