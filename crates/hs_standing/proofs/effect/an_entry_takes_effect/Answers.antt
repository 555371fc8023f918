use Rattle.hs_standing.specs.Start.{IsAwaited}
use Rattle.hs_standing.proofs.TookLemmas.{stood_later, took_later, waits_later}
use Rattle.hs_standing.proofs.effect.an_entry_takes_effect.Goals as goal

pub returns-clause-stands : goal.returns-clause-stands
returns-clause-stands c = λ start stop journal lists shard e s next. stood_later start journal (IsAwaited start stop journal) lists s.shape s.took s.left s.within shard next.of e next.rest next.first

pub returns-clause-took : goal.returns-clause-took
returns-clause-took c = λ start stop journal further lists shard e s next legal behind. took_later start journal (IsAwaited start stop journal) lists s.shape s.took s.left s.within shard next.of e next.rest next.first further legal behind

pub returns-clause-waits : goal.returns-clause-waits
returns-clause-waits c = λ start stop journal lists shard other e s next low due. waits_later start journal (IsAwaited start stop journal) lists s.shape s.took s.left s.within shard next.of e next.rest next.first other low due
