use Rattle.hs_post.proofs.NumberLemmas.{has_removed}
use Rattle.hs_post.proofs.numbers.Numbers.remove.Goals as goal

pub returns : goal.returns
returns c = rw (← c.self.view_is) (has_removed _ _ _ _ c.remove.ensures.updates.0)
