use Rattle.hs_quiet.proofs.FailedLemmas.{failed_up}
use Rattle.hs_quiet.proofs.TurningLemmas.{step_turns}
use Rattle.hs_quiet.proofs.turning.who_is_good_turns_by_cause.Goals as goal

pub returns : goal.returns
returns c = record {
  turns = λ event moment core all. step_turns event moment core all;
  failed = λ peer disk core all follows answers down. failed_up core all follows peer disk answers down;
}
