use Rattle.hs_whole_copies.proofs.OpenLemmas.{opens_whole, took_first}
use Rattle.hs_whole_copies.proofs.lists.what_opens_is_whole_in_step.Goals as goal

pub returns : goal.returns
returns c = record {
  opens = λ set found may on. opens_whole set found may on;
  took = λ set found machines shard may whole low. took_first set found may machines whole shard low;
}
