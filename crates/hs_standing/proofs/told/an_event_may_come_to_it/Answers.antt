use Rattle.hs_standing.proofs.ComingLemmas.{may_stand}
use Rattle.hs_standing.proofs.told.an_event_may_come_to_it.Goals as goal

pub returns : goal.returns
returns c = may_stand
