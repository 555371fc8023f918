use Rattle.hs_waits.proofs.LineLemmas.{first_waits}
use Rattle.hs_waits.proofs.waits.Waits.first.Goals as goal

pub returns : goal.returns
returns c = rw (← c.self.view_is) (first_waits _ c.told_apart.ensures c.self.inside.lines c.args.cause c.args.from c.first.result c.first.ensures)
