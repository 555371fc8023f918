use Rattle.hs_measure.proofs.rest.a_settle_leaves_nothing_open.Goals as goal
use Rattle.hs_measure.proofs.RestLemmas.{RestLaws, settle_rests}
use Rattle.hs_quiet.proofs.SweptLemmas.{Below}

pub returns : goal.returns
returns c = λ start core line events before moving room may going walks.
    let laws : RestLaws = record { stands = c.each_event_is_told.ensures.events; turns = c.answers_stay_in_order.ensures.events } in
    let below : Below = record { joined = c.folds_follow_the_machine.ensures.joined; step = c.rounds_run_in_step.ensures.step; on = c.a_run_goes_on.ensures.on } in
    settle_rests laws below start core events before moving room may going line walks
