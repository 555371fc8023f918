use Rattle.hs_settled.proofs.EndsEndLemmas.{ends_well}
use Rattle.hs_settled.proofs.ending.a_calm_run_ends_well.Goals as goal

pub returns : goal.returns
returns c = λ S r script left says its ends beyond may. ends_well S r script left says its ends beyond may
