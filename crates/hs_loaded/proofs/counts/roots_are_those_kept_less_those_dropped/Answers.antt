use Rattle.hs_loaded.proofs.CountLemmas.{roots_counted}
use Rattle.hs_loaded.proofs.counts.roots_are_those_kept_less_those_dropped.Goals as goal

pub returns : goal.returns
returns c = λ limits s before entries deeds new. roots_counted limits s before entries deeds new
