use Rattle.hs_tails.proofs.KnownLemmas.{known_on, known_settled}
use Rattle.hs_tails.proofs.copies.each_list_was_known_or_is_the_leads.Goals as goal

pub returns-clause-event : goal.returns-clause-event
returns-clause-event c = λ copies event list faithful may known. known_on copies event faithful may list known

pub returns-clause-settled : goal.returns-clause-settled
returns-clause-settled c = λ copies list faithful settled known has. known_settled copies faithful settled list known has
