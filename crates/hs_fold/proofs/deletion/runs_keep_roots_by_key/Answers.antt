use Rattle.hs_fold.proofs.Runs.KeyedLemmas.{apply-keyed, list-keyed}
use Rattle.hs_fold.proofs.deletion.runs_keep_roots_by_key.Goals as goal

pub returns-clause-lists : goal.returns-clause-lists
returns-clause-lists c = λ at list. list-keyed at list

pub returns-clause-kept : goal.returns-clause-kept
returns-clause-kept c = λ at k number entry keyed. apply-keyed at k keyed number entry
