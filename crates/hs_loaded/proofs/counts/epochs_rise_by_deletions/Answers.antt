use Rattle.hs_loaded.proofs.CountLemmas.{deletion_runs, epochs_rise}
use Rattle.hs_loaded.proofs.counts.epochs_rise_by_deletions.Goals as goal

pub returns-clause-rises : goal.returns-clause-rises
returns-clause-rises c = λ s shard entries low. epochs_rise s shard entries low

pub returns-clause-runs : goal.returns-clause-runs
returns-clause-runs c = λ limits s before e its is free swept low. deletion_runs limits s before e its is free swept low
