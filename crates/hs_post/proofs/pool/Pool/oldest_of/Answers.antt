use Rattle.hs_post.proofs.LeadLemmas.{oldest_of_peer}
use Rattle.hs_post.proofs.pool.Pool.oldest_of.Goals as goal

pub returns-clause-first : goal.returns-clause-first
returns-clause-first c = rw (← c.self.view_is) (oldest_of_peer c.self.inside.inboxes _ c.args.peer _ c.self.invariant.inboxes c.first_of_peer.ensures)
