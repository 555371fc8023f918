use Rattle.hs_waits.proofs.LineLemmas.{has_added}
use Rattle.hs_waits.proofs.lines.Lines.add.Goals as goal

pub returns-clause-ok : goal.returns-clause-ok
returns-clause-ok g c = rw (← c.self.view_is) (has_added g.K.Ord.cmp _ _ _ _ c.in-Ok.ensures.updates.0)
