use Rattle.hs_whole_copies.proofs.LineageLemmas.{goes_on_from, has_all, one_to}
use Rattle.hs_whole_copies.proofs.RankLemmas.{goes_on_as_told}
use Rattle.hs_whole_copies.proofs.lineage.a_disks_list_of_greater_rank_goes_on_from_a_good_peers.Goals as goal

pub returns : goal.returns
returns c = record {
  lineage = λ shard c copies k peer other front list own good of f h r. goes_on_from shard c copies k peer other front list own good of f h r;
  effects = λ shard c copies k peer other front list own good of f long h r. has_all shard c copies k peer other front list own good of f long h r;
  told = λ shard c copies k peer other front list own good of f has h least. goes_on_as_told shard c copies k peer other front list own good of f has h least;
  common = λ shard c copies k peer other n x y own of e f same. one_to shard c copies k peer other n x y own of e f same;
}
