use Rattle.std.proofs.Common.{None}
use Rattle.hs_cluster.proofs.work.empty_log.Goals as goal

pub returns-in_err-reset-clause-headed : goal.returns-in_err-reset-clause-headed
returns-in_err-reset-clause-headed g c = λ told last list has head at. c.reset.ensures.headed told last list None has head at

pub returns-clause-headed : goal.returns-clause-headed
returns-clause-headed g c = λ told last list has head at. c.reset.ensures.headed told last list None has head at
