use Rattle.hs_tails.proofs.RankLemmas.{may_be_chosen}
use Rattle.hs_tails.proofs.run.the_list_of_greatest_rank_may_be_chosen.Goals as goal

pub returns : goal.returns
returns c = λ start whole shard left peer runs low greatest. may_be_chosen start whole runs.runs shard low left peer greatest
