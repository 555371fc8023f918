use Rattle.hs_laws.proofs.WriteAnswers.{dup_there, dup_stays, dup_writes}
use Rattle.hs_laws.proofs.write.dup_is_the_same_block.Goals as goal

pub returns-clause-there : goal.returns-clause-there
returns-clause-there c = dup_there

pub returns-clause-stays : goal.returns-clause-stays
returns-clause-stays c = dup_stays

pub returns-clause-only : goal.returns-clause-only
returns-clause-only c = dup_writes
