use Rattle.hs_quiet.proofs.NothingLemmas.{left_open}
use Rattle.hs_quiet.proofs.SweptLemmas.{Below}
use Rattle.hs_quiet.proofs.open.a_quiet_store_has_nothing_open.Goals as goal

pub returns : goal.returns
returns c = λ by start core cs sound stands all left operations.
    let below : Below = record { joined = c.folds_follow_the_machine.ensures.joined; step = c.rounds_run_in_step.ensures.step; on = c.a_run_goes_on.ensures.on } in
    left_open below by start core cs sound stands all left operations
