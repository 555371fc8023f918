use Rattle.hs_awaiting.proofs.IndexLemmas.{first_passes}
use Rattle.hs_awaiting.proofs.operations.Operations.first.Goals as goal

pub returns-clause-first : goal.returns-clause-first
returns-clause-first c = rw (← c.self.view_is) (first_passes c.self.inside.table.map.entries c.self.inside.table.waits c.args.cause c.args.from c.first.result c.self.invariant.index.waits c.first.ensures)
