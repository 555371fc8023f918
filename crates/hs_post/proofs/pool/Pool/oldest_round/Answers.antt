use Rattle.std.proofs.Common.{sym, ◌∙◌}
use Rattle.hs_post.proofs.LeadLemmas.{oldest_of_lead}
use Rattle.hs_post.proofs.pool.Pool.oldest_round.Goals as goal

pub returns-then-eq : goal.returns-then-eq
returns-then-eq c = rw (← c.self.view_is) (oldest_of_lead c.self.inside.inboxes _ c.args.peer c.args.lead c.args.shard _ c.self.invariant.inboxes (sym c.eq.ensures ∙ c.if-eq.true) c.first_of_shard.ensures)
