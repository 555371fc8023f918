use Rattle.hs_core_copies.proofs.ReportLemmas.{copies_under_way}
use Rattle.hs_core_copies.proofs.copying.a_copying_step_is_the_machines.Goals as goal

pub returns : goal.returns
returns c = λ shard peer number from core copies in_step own first. copies_under_way shard peer number from core copies in_step own first
