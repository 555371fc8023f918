use Rattle.hs_settled.proofs.FirstLemmas.{run_told}
use Rattle.hs_settled.proofs.first.the_first_shard_enters_for_a_line.Goals as goal

pub returns : goal.returns
returns c = λ start found events begins may. run_told c.catalogues_in_memory_are_folds.ensures.list start found events begins may
