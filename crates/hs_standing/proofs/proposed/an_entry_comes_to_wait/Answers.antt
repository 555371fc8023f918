use Rattle.hs_standing.specs.Start.{IsAwaited}
use Rattle.hs_standing.proofs.AddLemmas.{stands_more}
use Rattle.hs_standing.proofs.proposed.an_entry_comes_to_wait.Goals as goal

pub returns : goal.returns
returns c = record { stands = λ start stop journal lists shard entry s low add. stands_more start (IsAwaited start stop journal) journal lists s shard low entry add }
