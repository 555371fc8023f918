use Rattle.hs_sound.proofs.KeptLemmas.{history_tells_all}
use Rattle.hs_sound.proofs.told.kept_rounds_tell_each_shard_its_own.Goals as goal

pub returns : goal.returns
returns c = record { own = λ set history. history_tells_all set history }
