use Rattle.hs_settled.proofs.RefusalLemmas.{allowed_tells, refused_tells}
use Rattle.hs_settled.proofs.refusals.a_refusal_comes_where_its_row_says.Goals as goal

pub returns-clause-tells : goal.returns-clause-tells
returns-clause-tells c = λ commands core e moment r its goes s. refused_tells commands core its goes e moment r s

pub returns-clause-only : goal.returns-clause-only
returns-clause-only c = λ commands core e moment its goes other free. allowed_tells commands core its goes e moment other free
