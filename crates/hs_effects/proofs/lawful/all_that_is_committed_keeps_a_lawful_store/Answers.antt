use Rattle.hs_effects.proofs.CommitLemmas.{commit_lawful}
use Rattle.hs_effects.proofs.lawful.all_that_is_committed_keeps_a_lawful_store.Goals as goal

pub returns : goal.returns
returns c = λ name cs core shard order its may. commit_lawful name shard cs core order its may
