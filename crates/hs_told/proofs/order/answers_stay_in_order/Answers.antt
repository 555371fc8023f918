use Rattle.hs_told.proofs.OpenedLemmas.{opened_turn}
use Rattle.hs_told.proofs.OrderLemmas.{all_turn, step_turn}
use Rattle.hs_told.proofs.order.answers_stay_in_order.Goals as goal

pub returns-clause-opens : goal.returns-clause-opens
returns-clause-opens c = λ commands shape limits taken moment none. opened_turn commands shape limits taken moment none

pub returns-clause-event : goal.returns-clause-event
returns-clause-event c = λ commands core e moment turn may. step_turn commands e moment core turn (λ going. may)

pub returns-clause-events : goal.returns-clause-events
returns-clause-events c = λ commands core es turn may. all_turn commands core es turn may

pub returns-clause-journal : goal.returns-clause-journal
returns-clause-journal c = λ commands core turn. turn.journal

pub returns-clause-with_refused : goal.returns-clause-with_refused
returns-clause-with_refused c = λ commands core turn. turn.turns.ordered
