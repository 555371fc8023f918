use Rattle.hs_laws.proofs.WriteAnswers.{new_absent, new_there, new_writes}
use Rattle.hs_laws.proofs.write.new_was_absent.Goals as goal

pub returns-clause-absent : goal.returns-clause-absent
returns-clause-absent c = new_absent

pub returns-clause-there : goal.returns-clause-there
returns-clause-there c = new_there

pub returns-clause-only : goal.returns-clause-only
returns-clause-only c = new_writes
