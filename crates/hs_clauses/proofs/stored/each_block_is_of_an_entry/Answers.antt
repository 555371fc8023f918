use Rattle.hs_clauses.proofs.EventLemmas.{numbers_run}
use Rattle.hs_clauses.proofs.OpenLemmas.{first_numbered}
use Rattle.hs_clauses.proofs.stored.each_block_is_of_an_entry.Goals as goal

pub returns-clause-opens : goal.returns-clause-opens
returns-clause-opens c = λ set found lists. first_numbered set found lists

pub returns-clause-event : goal.returns-clause-event
returns-clause-event c = λ core event moment its. numbers_run event moment core its
