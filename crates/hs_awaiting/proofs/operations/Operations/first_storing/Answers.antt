use Rattle.hs_awaiting.proofs.StoredLemmas.{first_stores}
use Rattle.hs_awaiting.proofs.operations.Operations.first_storing.Goals as goal

pub returns : goal.returns
returns c = rw (← c.self.view_is) (first_stores c.self.inside.table.map.entries c.self.inside.table.stored c.args.what c.args.from c.first.result c.self.invariant.stored c.first.ensures)
