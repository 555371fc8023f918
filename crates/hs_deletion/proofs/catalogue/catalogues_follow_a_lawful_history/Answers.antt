use Rattle.hs_deletion.proofs.FollowKeeps.{empty_followed, entries_followed}
use Rattle.hs_deletion.proofs.catalogue.catalogues_follow_a_lawful_history.Goals as goal

pub returns-clause-empty : goal.returns-clause-empty
returns-clause-empty c = empty_followed

pub returns-clause-kept : goal.returns-clause-kept
returns-clause-kept c = entries_followed
