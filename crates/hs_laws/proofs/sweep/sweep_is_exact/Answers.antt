use Rattle.std.proofs.Common.{slice_index}
use Rattle.hs_laws.proofs.SweepLemmas.{listed_unreached, unreached_listed, stays_spared, spared_stays, given_stays, stays_given}
use Rattle.hs_laws.proofs.sweep.sweep_is_exact.Goals as goal

pub returns-clause-listed : goal.returns-clause-listed
returns-clause-listed c = λ s run shard d a stored h. (listed_unreached s run shard a stored d h, unreached_listed s run shard a stored d h)

pub returns-clause-blocks : goal.returns-clause-blocks
returns-clause-blocks c = λ s shard d a stored. (stays_spared s (slice_index s.epochs shard) shard a stored d, λ h. spared_stays s (slice_index s.epochs shard) shard a stored d h.0 h.1)

pub returns-clause-given : goal.returns-clause-given
returns-clause-given c = λ s shard a epoch. (given_stays s shard a epoch, λ h. stays_given s shard a epoch h.0 h.1)
