use Rattle.hs_standing.proofs.SaneKnownLemmas.{sane_knows, sane_seated}
use Rattle.hs_standing.proofs.sane.a_sane_store_knows_its_copies.Goals as goal

pub returns-clause-seated : goal.returns-clause-seated
returns-clause-seated c = λ d sane. sane_seated d sane

pub returns-clause-known : goal.returns-clause-known
returns-clause-known c = λ d sane. sane_knows d sane
