use Rattle.hs_fold.proofs.Runs.PlainLemmas.{apply-plain}
use Rattle.hs_fold.proofs.deletion.clients_see_no_runs.Goals as goal

pub returns : goal.returns
returns c = record { plain = λ at k number entry once clients. apply-plain at k once number entry clients }
