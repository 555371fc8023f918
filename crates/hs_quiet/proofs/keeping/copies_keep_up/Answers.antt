use Rattle.hs_quiet.proofs.RunLemmas.{run_up}
use Rattle.hs_quiet.proofs.OpeningLemmas.{opened_all, opened_up}
use Rattle.hs_quiet.proofs.StepLemmas.{step_tuned, step_up}
use Rattle.hs_quiet.proofs.keeping.copies_keep_up.Goals as goal

pub returns : goal.returns
returns c = record {
  opened = λ shape limits taken moment some logs on. (opened_all shape limits taken moment some logs on, opened_up shape limits taken moment);
  stays = λ event moment core all up on. step_up event moment core all up on;
  step = λ event moment core all on. step_tuned event moment core all on;
  events = λ events core all up on. run_up events core all up on;
}
