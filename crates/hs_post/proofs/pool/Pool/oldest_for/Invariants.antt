use Rattle.std.proofs.Common.{take}
use Rattle.hs_post.specs.First.{IsFirst}
use Rattle.hs_post.specs.Pool.{is_due}
use Rattle.hs_post.proofs.pool.Pool.oldest_for.Given as goal

abbrev pub invariant-loop-shard : goal.invariant-loop-shard
invariant-loop-shard l = IsFirst (is_due l.peer (take l.shard l.leads) l.self) l.oldest
