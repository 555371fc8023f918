use Rattle.hs_tree.proofs.LawLemmas.{stored_at, stored_stays}
use Rattle.hs_tree.proofs.laws.a_stored_file_stays.Goals as goal

pub returns-clause-stays : goal.returns-clause-stays
returns-clause-stays c = stored_stays

pub returns-clause-stands : goal.returns-clause-stands
returns-clause-stands c = stored_at
