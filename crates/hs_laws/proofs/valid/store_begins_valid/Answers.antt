use Rattle.hs_model.specs.Store.{empty_store, reborn}
use Rattle.hs_laws.proofs.PromiseLemmas.{empty_valid, reborn_valid}
use Rattle.hs_laws.proofs.ValidLemmas.{valid_from_is, is_from_valid}
use Rattle.hs_laws.proofs.valid.store_begins_valid.Goals as goal

pub returns-clause-empty : goal.returns-clause-empty
returns-clause-empty c = λ shards h. is_from_valid (empty_store shards) (empty_valid shards h)

pub returns-clause-reborn : goal.returns-clause-reborn
returns-clause-reborn c = λ s v. is_from_valid (reborn s) (reborn_valid s (valid_from_is s v))
