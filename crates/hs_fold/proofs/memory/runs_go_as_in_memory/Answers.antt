use Rattle.hs_fold.proofs.Runs.MemoryLemmas.{run-enter, run-complete, run-last, run-received, run-search, run-sweep, run-got}
use Rattle.hs_fold.proofs.memory.runs_go_as_in_memory.Goals as goal

pub returns-clause-enter : goal.returns-clause-enter
returns-clause-enter c = λ shape shard k swept. run-enter shape shard k swept

pub returns-clause-got : goal.returns-clause-got
returns-clause-got c = λ shape shard k place told accepted. run-got shape shard k place told accepted

pub returns-clause-search : goal.returns-clause-search
returns-clause-search c = λ shape shard k running. run-search shape shard k running

pub returns-clause-sweep : goal.returns-clause-sweep
returns-clause-sweep c = λ shape shard k running. run-sweep shape shard k running

pub returns-clause-complete : goal.returns-clause-complete
returns-clause-complete c = λ shape shard k running. run-complete shape shard k running

pub returns-clause-last : goal.returns-clause-last
returns-clause-last c = λ shape shard k running. run-last shape shard k running

pub returns-clause-received : goal.returns-clause-received
returns-clause-received c = λ shape shard k running. run-received shape shard k running
