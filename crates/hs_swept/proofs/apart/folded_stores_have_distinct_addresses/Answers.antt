use Rattle.hs_swept.proofs.ApartLemmas.{folded_apart}
use Rattle.hs_swept.proofs.apart.folded_stores_have_distinct_addresses.Goals as goal

pub returns : goal.returns
returns c = folded_apart
