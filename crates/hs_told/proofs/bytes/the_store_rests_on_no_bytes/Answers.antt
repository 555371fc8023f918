use Rattle.std.proofs.Common.{ap}
use Rattle.hs_told.proofs.BytesLemmas.{Kept, step_same}
use Rattle.hs_told.proofs.bytes.the_store_rests_on_no_bytes.Goals as goal

pub returns-clause-sessions : goal.returns-clause-sessions
returns-clause-sessions c = λ peer number moment one two core. ap (λ (k : Kept). k.sessions) (step_same peer number moment one two core)

pub returns-clause-catalogues : goal.returns-clause-catalogues
returns-clause-catalogues c = λ peer number moment one two core. ap (λ (k : Kept). k.catalogues) (step_same peer number moment one two core)
