use Rattle.hs_taking.proofs.ChosenLemmas.{stays_chosen}
use Rattle.hs_taking.proofs.GreatestLemmas.{first_known}
use Rattle.hs_taking.proofs.RankLemmas.{front_ranks}
use Rattle.hs_taking.proofs.chosen.the_taken_list_stays_chosen.Goals as goal

pub returns-clause-ranks : goal.returns-clause-ranks
returns-clause-ranks c = λ list front numbered rising prefix. front_ranks list front numbered rising prefix

pub returns-clause-stays : goal.returns-clause-stays
returns-clause-stays c = λ shape logs shard from taken lists first there numbered rising low count own each. stays_chosen shape logs shard from taken lists first there numbered rising low count own each

pub returns-clause-known : goal.returns-clause-known
returns-clause-known c = λ shape logs entry shard from peer first whole some read. first_known shape logs entry shard from peer first whole some read
