use Rattle.hs_core_copies.proofs.KnowingLemmas.{knows, knows_in_run, knows_then}
use Rattle.hs_core_copies.proofs.knowing.what_is_known_is_within_the_leads_list.Goals as goal

pub returns : goal.returns
returns c = record {
  now = λ shard core copies st. knows shard core copies st;
  event = λ shard event moment core copies st on. knows_then shard event moment core copies st on;
  run = λ shape limits taken moment shard log events core may is on. knows_in_run shape limits taken moment shard log events core may is on;
}
