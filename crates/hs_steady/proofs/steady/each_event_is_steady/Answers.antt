use Rattle.hs_steady.proofs.RunLemmas.{steps_steadily}
use Rattle.hs_steady.proofs.steady.each_event_is_steady.Goals as goal

pub returns : goal.returns
returns c = λ c event moment machines w. steps_steadily c (event, moment) machines w
