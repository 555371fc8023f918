use Rattle.hs_waits.proofs.LineLemmas.{has_removed}
use Rattle.hs_waits.proofs.lines.Lines.remove.Goals as goal

pub returns : goal.returns
returns g c = rw (← c.self.view_is) (has_removed g.K.Ord.cmp _ _ _ _ c.remove.ensures.updates.0)
