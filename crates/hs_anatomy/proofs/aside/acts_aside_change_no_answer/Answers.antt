use Rattle.hs_anatomy.proofs.AsideLemmas.{kept_aside}
use Rattle.hs_anatomy.proofs.ListLemmas.{lists_aside}
use Rattle.hs_anatomy.proofs.RoundLemmas.{rounds_aside}
use Rattle.hs_anatomy.proofs.aside.acts_aside_change_no_answer.Goals as goal

pub returns-clause-kept : goal.returns-clause-kept
returns-clause-kept c = λ begun event old new x. kept_aside x

pub returns-clause-waiting : goal.returns-clause-waiting
returns-clause-waiting c = λ begun event old new shard x. (lists_aside x).waiting shard

pub returns-clause-front : goal.returns-clause-front
returns-clause-front c = λ begun event old new shard x. (lists_aside x).front shard

pub returns-clause-rounds : goal.returns-clause-rounds
returns-clause-rounds c = λ begun event old new x. rounds_aside x
