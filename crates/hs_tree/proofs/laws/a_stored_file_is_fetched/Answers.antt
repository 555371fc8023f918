use Rattle.hs_tree.proofs.KeyLemmas.{never_none, one_of_key, stored_is}
use Rattle.hs_tree.proofs.laws.a_stored_file_is_fetched.Goals as goal

pub returns-clause-found : goal.returns-clause-found
returns-clause-found c = stored_is

pub returns-clause-only : goal.returns-clause-only
returns-clause-only c = one_of_key

pub returns-clause-never : goal.returns-clause-never
returns-clause-never c = never_none
