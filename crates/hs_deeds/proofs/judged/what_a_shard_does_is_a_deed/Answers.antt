use Rattle.hs_deeds.proofs.JudgedLemmas.{enter_is, enter_left, sweep_is, sweep_left}
use Rattle.hs_deeds.proofs.judged.what_a_shard_does_is_a_deed.Goals as goal

pub returns-clause-enters : goal.returns-clause-enters
returns-clause-enters c = λ limits s shard before low may. enter_is limits s shard before low may

pub returns-clause-entered : goal.returns-clause-entered
returns-clause-entered c = λ limits s shard. enter_left limits s shard

pub returns-clause-sweeps : goal.returns-clause-sweeps
returns-clause-sweeps c = λ limits s shard before low may. sweep_is limits s shard before low may

pub returns-clause-swept : goal.returns-clause-swept
returns-clause-swept c = λ limits s shard. sweep_left limits s shard
