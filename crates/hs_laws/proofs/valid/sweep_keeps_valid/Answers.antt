use Rattle.hs_model.specs.Inner.{sweep}
use Rattle.hs_laws.proofs.SweepKeeps.{sweep_valid}
use Rattle.hs_laws.proofs.ValidLemmas.{valid_from_is, is_from_valid}
use Rattle.hs_laws.proofs.valid.sweep_keeps_valid.Goals as goal

pub returns : goal.returns
returns c = record { kept = λ s shard v t. is_from_valid (sweep s shard) (sweep_valid s (valid_from_is s v) shard t) }
