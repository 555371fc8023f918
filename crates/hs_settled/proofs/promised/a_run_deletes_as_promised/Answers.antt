use Rattle.hs_settled.proofs.PromiseLemmas.{ended_promised, never_promised, run_promised}
use Rattle.hs_settled.proofs.promised.a_run_deletes_as_promised.Goals as goal
use Rattle.hs_promise.specs.Entry.{entry_store}

pub returns-clause-went : goal.returns-clause-went
returns-clause-went c = λ S r story went opens may. run_promised c.a_run_keeps_the_rule_of_done.ensures S (entry_store S r) r story went opens may

pub returns-clause-ended : goal.returns-clause-ended
returns-clause-ended c = λ S r story fault went over. ended_promised c.each_event_keeps_the_rule_of_done.ensures.opens S (entry_store S r) r story fault went over

pub returns-clause-never : goal.returns-clause-never
returns-clause-never c = λ S r never. never_promised S (entry_store S r) r never
