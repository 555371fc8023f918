use Rattle.hs_core_copies.proofs.RunLemmas.{lineage_in_step, rank_in_step}
use Rattle.hs_core_copies.proofs.lineage.a_list_of_greater_rank_goes_on_from_a_good_peers.Goals as goal

pub returns : goal.returns
returns c = record {
  lineage = λ shard core copies st peer other front list own good a b rank. lineage_in_step shard core copies st peer other front list own good a b rank;
  effects = λ shard core copies st peer other front list own good a long b rank. rank_in_step shard core copies st peer other front list own good a long b rank;
}
