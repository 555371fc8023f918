use Rattle.hs_copies.proofs.OpenedLemmas.{took_after, took_good}
use Rattle.hs_copies.proofs.front.good_lists_are_fronts_of_the_leads.Goals as goal

pub returns : goal.returns
returns c = record { lead = λ s p r g. (r.good p g).prefix; took = λ s p r g. took_good s r p g; stays = took_after }
