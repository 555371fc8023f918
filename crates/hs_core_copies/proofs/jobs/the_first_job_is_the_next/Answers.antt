use Rattle.hs_core_copies.proofs.NextLemmas.{first_is_next}
use Rattle.hs_core_copies.proofs.jobs.the_first_job_is_the_next.Goals as goal

pub returns : goal.returns
returns c = λ shard peer core copies job st own first. first_is_next shard peer core copies job st own first
