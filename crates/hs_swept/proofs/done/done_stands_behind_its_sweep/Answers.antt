use Rattle.hs_swept.proofs.DoneLemmas.{group_swept, none_swept, other_swept}
use Rattle.hs_swept.proofs.JoinLemmas.{joined}
use Rattle.hs_swept.proofs.done.done_stands_behind_its_sweep.Goals as goal

pub returns-clause-sweep : goal.returns-clause-sweep
returns-clause-sweep c = λ by s shard moment valid apart may. group_swept c.sweep_is_exact.ensures.blocks c.sweep_is_exact.ensures.given by s valid apart shard moment may

pub returns-clause-nothing : goal.returns-clause-nothing
returns-clause-nothing c = λ by s. none_swept by s

pub returns-clause-other : goal.returns-clause-other
returns-clause-other c = λ by s entry other. other_swept by s entry other

pub returns-clause-joined : goal.returns-clause-joined
returns-clause-joined c = λ by s front back one two. joined by s front back one two
