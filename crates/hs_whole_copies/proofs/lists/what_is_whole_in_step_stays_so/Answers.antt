use Rattle.hs_whole_copies.proofs.AllLemmas.{all_stay, shard_stays}
use Rattle.hs_whole_copies.proofs.lists.what_is_whole_in_step_stays_so.Goals as goal

pub returns : goal.returns
returns c = record {
  shard = λ shard c event moment copies st on. shard_stays shard c event moment copies st on;
  all = λ c event moment machines w on. all_stay c event moment machines w on;
}
