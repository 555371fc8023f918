use Rattle.std.specs.Map.{keys_of}
use Rattle.hs_model.specs.Run.{run, step}
use Rattle.hs_model.specs.Store.{empty_store}
use Rattle.hs_laws.proofs.OrderKeeps.{ordered_from_is, is_from_ordered, empty_ordered, step_ordered, run_ordered, distinct_from_sorted}
use Rattle.hs_laws.proofs.order.lists_stay_in_order.Goals as goal

pub returns-clause-empty : goal.returns-clause-empty
returns-clause-empty c = λ shards. is_from_ordered (empty_store shards) (empty_ordered shards)

pub returns-clause-kept : goal.returns-clause-kept
returns-clause-kept c = λ limits s event o. is_from_ordered (step limits s event).store (step_ordered limits s (ordered_from_is s o) event)

pub returns-clause-runs : goal.returns-clause-runs
returns-clause-runs c = λ limits s events o. is_from_ordered (run limits s events) (run_ordered limits s (ordered_from_is s o) events)

pub returns-clause-distinct : goal.returns-clause-distinct
returns-clause-distinct c = λ s o. distinct_from_sorted (keys_of s.blocks) o.blocks
