use Rattle.hs_standing.proofs.RestLemmas.{rests_follows}
use Rattle.hs_standing.proofs.follows.an_entry_that_waits_may_come.Goals as goal

pub returns : goal.returns
returns c = λ name cs core shard number entry its low leads few. rests_follows name cs core its shard number entry low leads few
