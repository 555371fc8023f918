use Rattle.hs_awaiting.proofs.IndexLemmas.{line_found}
use Rattle.hs_awaiting.proofs.operations.Operations.line_of.Goals as goal

pub returns : goal.returns
returns c = rw (← c.self.view_is) (line_found c.self.inside.table.map.entries c.self.inside.table.sessions c.args.name.now c.first.result c.len-ordered.ensures.ordered c.self.invariant.index.sessions
    (rw c.in_ok-name.ensures at c.first.ensures))
