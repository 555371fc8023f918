use Rattle.std.proofs.Common.{◌≡◌, length}
use Rattle.hs_post.specs.Pool.{drop_for}
use Rattle.hs_post.proofs.pool.Pool.drop_for.Given as goal

abbrev pub invariant-loop-number : goal.invariant-loop-number
invariant-loop-number l = drop_for l.peer l.self ≡ drop_for l.peer l.initial.self

abbrev pub decreases-loop-number : goal.decreases-loop-number
decreases-loop-number l = length l.self.messages
