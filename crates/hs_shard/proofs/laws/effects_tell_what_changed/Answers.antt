use Rattle.hs_shard.proofs.EffectLemmas.{entry_leaves}
use Rattle.hs_shard.proofs.laws.effects_tell_what_changed.Goals as goal

pub returns-clause-refused : goal.returns-clause-refused
returns-clause-refused x = λ number entry named c. (entry_leaves number entry named c).0

pub returns-clause-again : goal.returns-clause-again
returns-clause-again x = λ number entry named c. (entry_leaves number entry named c).1

pub returns-clause-removed : goal.returns-clause-removed
returns-clause-removed x = λ number entry named c. (entry_leaves number entry named c).2
