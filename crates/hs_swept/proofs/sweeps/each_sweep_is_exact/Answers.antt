use Rattle.hs_swept.proofs.ExactLemmas.{sweeps_exactly}
use Rattle.hs_swept.proofs.sweeps.each_sweep_is_exact.Goals as goal

pub returns : goal.returns
returns c = λ by start entries after apart shards tells.
    sweeps_exactly c.sweep_is_exact.ensures.blocks c.sweep_is_exact.ensures.given c.addresses_stay_distinct.ensures.kept by start entries after apart shards tells
