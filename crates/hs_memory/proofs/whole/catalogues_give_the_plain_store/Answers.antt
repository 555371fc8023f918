use Rattle.hs_memory.proofs.WholeLemmas.{whole}
use Rattle.hs_memory.proofs.whole.catalogues_give_the_plain_store.Goals as goal

pub returns : goal.returns
returns c = λ shape cs own. whole shape cs own
