use Rattle.hs_joint.proofs.HistoryLemmas.{shape_some}
use Rattle.hs_quiet.proofs.CausedLemmas.{step_caused}
use Rattle.hs_quiet.proofs.GoingGoodLemmas.{judged_low}
use Rattle.hs_quiet.proofs.OpensLemmas.{opened_caused}
use Rattle.hs_quiet.proofs.RunLemmas.{run_caused}
use Rattle.hs_quiet.proofs.causes.each_operation_waits_for_what_is_there.Goals as goal

pub returns : goal.returns
returns c = record {
  opened = λ name shape limits taken moment on. opened_caused shape limits taken moment name on;
  event = λ name core event moment all shape orderly caused may on. step_caused name event moment core all shape orderly caused may on;
  events = λ name core events all shape orderly caused may on. run_caused name events core all shape orderly caused may on;
  caused = λ name core line w shape orderly caused at. (judged_low name core line w (shape_some core.members.shape shape) orderly at, caused.caused line w at);
}
