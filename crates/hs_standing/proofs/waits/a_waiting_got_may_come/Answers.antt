use Rattle.hs_standing.proofs.SentWaitLemmas.{got_due, got_waits}
use Rattle.hs_standing.proofs.waits.a_waiting_got_may_come.Goals as goal

pub returns-clause-waits : goal.returns-clause-waits
returns-clause-waits c = λ name cs core lawful shard at from epoch round total deltas sent there. got_waits name cs core lawful sent shard at from epoch round total deltas there

pub returns-clause-accepted : goal.returns-clause-accepted
returns-clause-accepted c = λ name cs core lawful shard at from epoch round total deltas sent there.
    got_due name cs core lawful sent shard at (record { epoch = epoch; round = round; from = from }) (record { total = total; deltas = deltas }) there
