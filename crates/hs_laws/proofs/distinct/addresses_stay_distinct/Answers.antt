use Rattle.hs_laws.proofs.DistinctLemmas.{none-distinct, step-distinct, run-distinct}
use Rattle.hs_laws.proofs.distinct.addresses_stay_distinct.Goals as goal

pub returns-clause-empty : goal.returns-clause-empty
returns-clause-empty c = λ shards. none-distinct

pub returns-clause-kept : goal.returns-clause-kept
returns-clause-kept c = step-distinct

pub returns-clause-runs : goal.returns-clause-runs
returns-clause-runs c = run-distinct
