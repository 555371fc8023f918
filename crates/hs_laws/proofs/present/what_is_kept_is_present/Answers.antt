use Rattle.hs_laws.proofs.RunLemmas.{root_whole, held_whole}
use Rattle.hs_laws.proofs.ValidLemmas.{valid_from_is}
use Rattle.hs_laws.proofs.present.what_is_kept_is_present.Goals as goal

pub returns-clause-rooted : goal.returns-clause-rooted
returns-clause-rooted c = λ s root v m e. root_whole s (valid_from_is s v) root m e

pub returns-clause-held : goal.returns-clause-held
returns-clause-held c = λ s held v i f. held_whole s (valid_from_is s v) held i f
