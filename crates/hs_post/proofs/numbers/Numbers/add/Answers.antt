use Rattle.hs_post.proofs.NumberLemmas.{has_added}
use Rattle.hs_post.proofs.numbers.Numbers.add.Goals as goal

pub returns-clause-ok : goal.returns-clause-ok
returns-clause-ok c = rw (← c.self.view_is) (has_added _ _ _ _ c.in_ok-insert.ensures.updates.0)
