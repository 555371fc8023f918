use Rattle.std.proofs.Common.{drop}
use Rattle.hs_replica.proofs.StoreLemmas.{first_stored}
use Rattle.hs_replica.proofs.waiting.Waiting.first_block.Goals as goal

pub returns : goal.returns
returns c =
    let fields = c.self.inside in
    rw (← c.self.view_is) (first_stored fields.kinds.stores (drop fields.gone fields.items.items) c.args.from c.first.result c.self.invariant.kinds.stores c.first.ensures)
