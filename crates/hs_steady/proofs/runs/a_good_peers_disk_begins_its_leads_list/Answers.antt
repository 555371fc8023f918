use Rattle.hs_steady.proofs.LedLemmas.{begins_lead}
use Rattle.hs_steady.proofs.runs.a_good_peers_disk_begins_its_leads_list.Goals as goal

pub returns : goal.returns
returns c = λ set found events span shows may store moment at peer lead good leads image left list read. begins_lead set found events span shows may store moment at peer lead good leads image left list read
