use Rattle.std.proofs.Common.{◌≡◌}
use Rattle.hs_replica.proofs.tally.Tally.lower.Goals as goal

pub returns : goal.returns
returns c more = rw (← c.self.view_is) c.in-Ok.ensures.updates.0
