use Rattle.hs_anatomy.proofs.EventLemmas.{does_acts, opening_acts}
use Rattle.hs_anatomy.proofs.StepLemmas.{step_is}
use Rattle.hs_anatomy.proofs.event.each_event_is_made_of_acts.Goals as goal
use Rattle.hs_core_words.specs.Opening.{new_core}

pub returns-clause-event : goal.returns-clause-event
returns-clause-event c = λ core event. does_acts core event

pub returns-clause-frame : goal.returns-clause-frame
returns-clause-frame c = λ core event moment going. step_is event moment core going

pub returns-clause-opening : goal.returns-clause-opening
returns-clause-opening c = λ shape limits taken moment. opening_acts (new_core shape limits taken moment)
