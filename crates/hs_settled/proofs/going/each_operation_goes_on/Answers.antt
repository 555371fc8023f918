use Rattle.hs_settled.proofs.GoingLemmas.{first_moving, step_moving, steps_moving}
use Rattle.hs_settled.proofs.going.each_operation_goes_on.Goals as goal

pub returns-clause-opened : goal.returns-clause-opened
returns-clause-opened c = λ name set found many ranked going. first_moving name set found many ranked going

pub returns-clause-event : goal.returns-clause-event
returns-clause-event c = λ name core event moment moving may going. step_moving name event moment core moving may going

pub returns-clause-events : goal.returns-clause-events
returns-clause-events c = λ name core events moving may going. steps_moving name core events moving may going
