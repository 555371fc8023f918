use Rattle.hs_core_copies.proofs.OpeningLemmas.{opened_core_in_step, run_in_step}
use Rattle.hs_core_copies.proofs.opening.what_opens_is_in_step.Goals as goal

pub returns : goal.returns
returns c = record {
  opened = λ shape limits taken moment shard log may on. opened_core_in_step shape limits taken moment shard log may on;
  run = λ shape limits taken moment shard log events may on. run_in_step shape limits taken moment shard log events may on;
}
