use Rattle.hs_settled.proofs.RisesLemmas.{never_told, rises_told}
use Rattle.hs_settled.proofs.rises.each_rise_is_told.Goals as goal

pub returns-clause-went : goal.returns-clause-went
returns-clause-went c = λ S r story went stands. rises_told S r story went stands

pub returns-clause-never : goal.returns-clause-never
returns-clause-never c = λ S r never. never_told S r never
