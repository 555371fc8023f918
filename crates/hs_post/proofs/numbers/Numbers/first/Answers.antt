use Rattle.std.proofs.Common.{◌≡◌}
use Rattle.std.proofs.lemmas.Map.Iter.{rest_all}
use Rattle.std.specs.Map.Iter.{deref}
use Rattle.hs_post.proofs.NumberLemmas.{first_found, first_of_none, first_of_other}
use Rattle.hs_post.proofs.numbers.Numbers.first.Goals as goal

pub returns-then-to-receiver : goal.returns-then-to-receiver
returns-then-to-receiver c = rw (← c.self.view_is) (first_found _ _ _ (c.range.ensures.in_range tt) _ _ c.in-Some.ensures.steps c.if-to-receiver.true)

pub returns-else-to-receiver : goal.returns-else-to-receiver
returns-else-to-receiver c = rw (← c.self.view_is) (first_of_other _ _ _ (c.range.ensures.in_range tt) _ _ c.in-Some.ensures.steps c.if-to-receiver.false)

pub returns-in_default : goal.returns-in_default
returns-in_default c = rw (← c.self.view_is) (first_of_none _ _ _ (c.range.ensures.in_range tt) (rest_all deref _ _ _ c.in_default.is c.next.ensures.steps))
