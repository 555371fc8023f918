use Rattle.hs_standing.proofs.HandleLemmas.{hold_addresses}
use Rattle.hs_standing.proofs.HeldHeldLemmas.{waiting_mark, waiting_root}
use Rattle.hs_standing.proofs.addresses.handles_stand_for_addresses.Goals as goal

pub returns-clause-held : goal.returns-clause-held
returns-clause-held c = λ core its. hold_addresses core.sessions its.sessions

pub returns-clause-roots : goal.returns-clause-roots
returns-clause-roots c = λ name core order its shard place line held a key at. waiting_root name core order its shard place line held a key at

pub returns-clause-marks : goal.returns-clause-marks
returns-clause-marks c = λ name names core order shard place line least block a at. waiting_mark name names core order shard place line least block a at
