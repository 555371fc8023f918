use Rattle.hs_deletion.proofs.HistoryKeeps.{right_empty, right_history, right_made, made_after}
use Rattle.hs_deletion.proofs.history.lawful_histories_keep_the_invariants.Goals as goal

pub returns-clause-empty : goal.returns-clause-empty
returns-clause-empty c = right_empty

pub returns-clause-kept : goal.returns-clause-kept
returns-clause-kept c = right_history

pub returns-clause-right : goal.returns-clause-right
returns-clause-right c = right_made

pub returns-clause-made : goal.returns-clause-made
returns-clause-made c = made_after
