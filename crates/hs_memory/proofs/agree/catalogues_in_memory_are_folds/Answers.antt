use Rattle.hs_memory.proofs.AgreeLemmas.{entry_alike, list_alike}
use Rattle.hs_memory.proofs.agree.catalogues_in_memory_are_folds.Goals as goal

pub returns-clause-entry : goal.returns-clause-entry
returns-clause-entry c = λ name shape shard k number entry own. entry_alike name shape shard k own number entry

pub returns-clause-list : goal.returns-clause-list
returns-clause-list c = λ name shape shard entries. list_alike name shape shard entries
