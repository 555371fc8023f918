use Rattle.hs_waiting.proofs.LoggedLemmas.{history_logged}
use Rattle.hs_waiting.proofs.logged.logged_gots_are_what_their_senders_keep.Goals as goal

pub returns : goal.returns
returns c = record { sent = λ set history shard shape fit records l. history_logged set history shard shape fit records l }
