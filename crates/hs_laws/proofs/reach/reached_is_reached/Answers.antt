use Rattle.hs_model.proofs.ReachLemmas.{listed_is, is_listed}
use Rattle.hs_laws.proofs.reach.reached_is_reached.Goals as goal

pub returns-clause-exact : goal.returns-clause-exact
returns-clause-exact c = λ s from d a. (listed_is s from a d, is_listed s from a)

pub returns-clause-all : goal.returns-clause-all
returns-clause-all c = is_listed
