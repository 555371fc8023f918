use Rattle.hs_events.specs.Whole.{open_whole}
use Rattle.hs_moments.proofs.OpeningLemmas.{opening_is_sane}
use Rattle.hs_clauses.proofs.InStepReadLemmas.{in_step_all_stored}
use Rattle.hs_clauses.proofs.OpenLemmas.{first_numbered}
use Rattle.hs_clauses.proofs.SealedLemmas.{all_stored}
use Rattle.hs_clauses.proofs.stored.what_is_read_is_sealed.Goals as goal

pub returns-clause-along : goal.returns-clause-along
returns-clause-along c = λ whole events sane numbers. all_stored whole events sane numbers

pub returns-clause-opens : goal.returns-clause-opens
returns-clause-opens c = λ set found events one going lists many. all_stored (open_whole set found) events (opening_is_sane set found one going lists many) (first_numbered set found lists)

pub returns-clause-copies : goal.returns-clause-copies
returns-clause-copies c = λ whole machines events k numbers. in_step_all_stored whole machines events k numbers
