use Rattle.hs_core_copies.proofs.RunLemmas.{goes_along, keeps_effects}
use Rattle.hs_core_copies.proofs.StepsLemmas.{steps_on}
use Rattle.hs_core_copies.proofs.events.every_event_is_the_machines.Goals as goal

pub returns : goal.returns
returns c = record {
  event = λ shard event moment core copies st on. steps_on shard event moment core copies st on;
  events = λ shard events core copies st on. goes_along shard events core copies st on;
  effects = λ shard old new copies st on. keeps_effects shard old new copies st on;
}
