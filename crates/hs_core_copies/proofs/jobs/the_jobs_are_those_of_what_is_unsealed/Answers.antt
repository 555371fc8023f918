use Rattle.hs_core_copies.proofs.NextLemmas.{unsealed_is}
use Rattle.hs_core_copies.proofs.jobs.the_jobs_are_those_of_what_is_unsealed.Goals as goal

pub returns : goal.returns
returns c = record {
  jobs = λ shard core copies st peer own. st.jobs peer own;
  entries = λ shard core copies st peer own good. unsealed_is shard core copies st peer own good;
}
