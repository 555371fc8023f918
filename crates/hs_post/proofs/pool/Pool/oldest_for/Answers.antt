use Rattle.std.proofs.Common.{◌≡◌, ◌+◌, length, take, subst, arith}
use Rattle.std.proofs.lemmas.List.{take_all}
use Rattle.hs_post.specs.First.{IsFirst}
use Rattle.hs_post.specs.Pool.{is_due}
use Rattle.hs_post.proofs.LeadLemmas.{oldest_by_next, oldest_is_found}
use Rattle.hs_post.proofs.pool.Pool.oldest_for.Goals as goal

pub loop-shard-preserved : goal.loop-shard-preserved
loop-shard-preserved c = rw c.earlier-oldest.ensures (oldest_by_next c.args.self.now c.args.peer c.args.leads.now c.loop-shard.shard _ _ c.loop-shard.invariant c.oldest_round.ensures)

pub returns-clause-first : goal.returns-clause-first
returns-clause-first c =
    let all : take c.loop-shard.shard c.args.leads.now ≡ c.args.leads.now = take_all c.loop-shard.shard c.args.leads.now (omega arith) in
    rw all at c.loop-shard.invariant

pub returns-clause-value : goal.returns-clause-value
returns-clause-value c = oldest_is_found c.args.self.now c.args.peer c.args.leads.now _ c.oldest_of-oldest.ensures.valid (returns-clause-first c)
