use Rattle.hs_core_copies.proofs.ListsLemmas.{lists_by}
use Rattle.hs_core_copies.proofs.lists.each_list_is_what_is_told_and_what_waits.Goals as goal

pub returns : goal.returns
returns c = λ shard event moment core copies st held on. lists_by shard event moment core copies st held on
