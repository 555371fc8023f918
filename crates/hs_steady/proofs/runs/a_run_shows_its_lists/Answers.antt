use Rattle.hs_steady.proofs.ShowLemmas.{opened_shows}
use Rattle.hs_steady.proofs.runs.a_run_shows_its_lists.Goals as goal

pub returns : goal.returns
returns c = λ set found events span shows may on. opened_shows set found events span shows may on
