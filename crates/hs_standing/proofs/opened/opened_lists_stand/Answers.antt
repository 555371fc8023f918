use Rattle.hs_standing.specs.Start.{IsAwaited}
use Rattle.hs_standing.proofs.StopsOpenLemmas.{opened_left, opened_took}
use Rattle.hs_standing.proofs.opened.opened_lists_stand.Goals as goal

pub returns-clause-took : goal.returns-clause-took
returns-clause-took c = λ start lists all along entry. opened_took start lists all along entry

pub returns-clause-left : goal.returns-clause-left
returns-clause-left c = λ start stop journal lists shard all along low numbered. opened_left start lists all along (IsAwaited start stop journal) shard low numbered
