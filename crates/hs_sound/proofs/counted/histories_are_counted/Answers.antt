use Rattle.hs_sound.proofs.CountedLemmas.{history_counted}
use Rattle.hs_sound.proofs.counted.histories_are_counted.Goals as goal

pub returns : goal.returns
returns c = record { counted = λ set history shape fit records. history_counted set history shape fit records }
