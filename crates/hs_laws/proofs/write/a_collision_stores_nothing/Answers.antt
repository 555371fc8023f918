use Rattle.hs_laws.proofs.WriteAnswers.{collision_stays, before_tells, other_collides, collision_other, collision_writes}
use Rattle.hs_laws.proofs.write.a_collision_stores_nothing.Goals as goal

pub returns-clause-stays : goal.returns-clause-stays
returns-clause-stays c = collision_stays

pub returns-clause-earlier : goal.returns-clause-earlier
returns-clause-earlier c = before_tells

pub returns-clause-refused : goal.returns-clause-refused
returns-clause-refused c = other_collides

pub returns-clause-other : goal.returns-clause-other
returns-clause-other c = collision_other

pub returns-clause-only : goal.returns-clause-only
returns-clause-only c = collision_writes
