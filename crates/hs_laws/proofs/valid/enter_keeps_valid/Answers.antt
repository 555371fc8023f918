use Rattle.hs_model.specs.Inner.{enter}
use Rattle.hs_laws.proofs.EnterLemmas.{enter_valid}
use Rattle.hs_laws.proofs.ValidLemmas.{valid_from_is, is_from_valid}
use Rattle.hs_laws.proofs.valid.enter_keeps_valid.Goals as goal

pub returns : goal.returns
returns c = record { kept = λ s shard v t. is_from_valid (enter s shard) (enter_valid s (valid_from_is s v) shard t) }
