use Rattle.hs_moments.proofs.working.what_was_appended_stays.Goals as goal
use Rattle.hs_moments.proofs.SaneLemmas.{appended_beside, appended_stays}

pub returns-clause-without_call : goal.returns-clause-without_call
returns-clause-without_call c = appended_stays

pub returns-clause-beside : goal.returns-clause-beside
returns-clause-beside c = appended_beside
