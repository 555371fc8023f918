use Rattle.hs_core_copies.proofs.SettledRunLemmas.{settled_by, settled_in_run}
use Rattle.hs_core_copies.proofs.settled.an_entry_takes_effect_as_the_front_reaches_it.Goals as goal

pub returns : goal.returns
returns c = record {
  event = λ shard event moment core copies st is on. settled_by shard event moment core copies st is on;
  run = λ shape limits taken moment shard log events core may is on. settled_in_run shape limits taken moment shard log events core may is on;
}
