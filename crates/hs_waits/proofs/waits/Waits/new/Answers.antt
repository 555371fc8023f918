use Rattle.std.proofs.Common.{None}
use Rattle.hs_waits.proofs.LineLemmas.{waits_from}
use Rattle.hs_waits.proofs.waits.Waits.new.Goals as goal

pub returns : goal.returns
returns c = waits_from _ c.told_apart.ensures (λ n. None) _ c.new.ensures
