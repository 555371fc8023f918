use Rattle.hs_moments.proofs.working.lists_only_grow.Goals as goal
use Rattle.hs_moments.proofs.SaneLemmas.{growing_beside, growing_without_call}

pub returns-clause-without_call : goal.returns-clause-without_call
returns-clause-without_call c = growing_without_call

pub returns-clause-beside : goal.returns-clause-beside
returns-clause-beside c = growing_beside
