use Rattle.hs_waits.proofs.LineLemmas.{waits_changed}
use Rattle.hs_waits.proofs.waits.Waits.change.Goals as goal

pub returns : goal.returns
returns c causes are own = waits_changed _ c.told_apart.ensures causes _ _ _ _ _ _ c.change.ensures (rw c.self.view_is are) own
