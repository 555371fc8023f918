use Rattle.hs_laws.proofs.AcyclicKeeps.{empty_acyclic, left_acyclic, reborn_acyclic, run_acyclic, step_acyclic}
use Rattle.hs_laws.proofs.ValidLemmas.{valid_from_is}
use Rattle.hs_laws.proofs.acyclic.stores_stay_acyclic.Goals as goal

pub returns-clause-empty : goal.returns-clause-empty
returns-clause-empty c = empty_acyclic

pub returns-clause-reborn : goal.returns-clause-reborn
returns-clause-reborn c = reborn_acyclic

pub returns-clause-kept : goal.returns-clause-kept
returns-clause-kept c = λ limits s event v d acyclic. step_acyclic limits s (valid_from_is s v) d event acyclic

pub returns-clause-runs : goal.returns-clause-runs
returns-clause-runs c = λ limits s events v d legal acyclic. run_acyclic limits s (valid_from_is s v) d events legal acyclic

pub returns-clause-left : goal.returns-clause-left
returns-clause-left c = left_acyclic
