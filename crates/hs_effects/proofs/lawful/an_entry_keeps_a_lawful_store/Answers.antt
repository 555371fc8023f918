use Rattle.hs_effects.proofs.FoldLemmas.{entry_folds, taken_folds}
use Rattle.hs_effects.proofs.LawfulLemmas.{entry_lawful, entry_part}
use Rattle.hs_effects.proofs.lawful.an_entry_keeps_a_lawful_store.Goals as goal

pub returns-clause-taken : goal.returns-clause-taken
returns-clause-taken c = λ name cs core shard entry folded low called. taken_folds name cs core shard entry folded low called

pub returns-clause-folded : goal.returns-clause-folded
returns-clause-folded c = λ name cs core shard entry folded low called. entry_folds name cs core shard entry folded low called

pub returns-clause-lawful : goal.returns-clause-lawful
returns-clause-lawful c = λ name cs core shard entry its called may. entry_lawful name cs core shard entry its may called

pub returns-clause-part : goal.returns-clause-part
returns-clause-part c = λ name cs core shard entry its may. entry_part name cs core shard entry its may
