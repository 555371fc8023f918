use Rattle.hs_waiting.proofs.KeptLemmas.{kept_still}
use Rattle.hs_waiting.proofs.got.an_accepted_got_is_what_its_sender_keeps.Goals as goal

pub returns : goal.returns
returns c = record { kept = λ set history deeds shard place told shape fit records more few l within sent ok. kept_still set history deeds shard place told shape fit records more few l within sent ok }
