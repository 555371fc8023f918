use Rattle.hs_replica.proofs.StoreLemmas.{first_filed}
use Rattle.hs_replica.proofs.stores.Stores.first.Goals as goal

pub returns : goal.returns
returns c = rw (← c.self.view_is) (first_filed c.self.inside.counts c.self.inside.lines c.args.from c.first.result c.self.invariant c.first.ensures)
