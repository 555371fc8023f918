use Rattle.hs_settled.proofs.NotedCountLemmas.{all_counts, step_counts}
use Rattle.hs_settled.proofs.NotedFirstLemmas.{first_notes}
use Rattle.hs_settled.proofs.failures.a_failed_disk_is_told_once.Goals as goal

pub returns-clause-opened : goal.returns-clause-opened
returns-clause-opened c = λ shape limits found moment disk low. first_notes shape limits found moment disk low

pub returns-clause-event : goal.returns-clause-event
returns-clause-event c = λ commands core e moment disk its goes may. step_counts commands core its goes moment disk e may

pub returns-clause-events : goal.returns-clause-events
returns-clause-events c = λ commands core es disk its own may. all_counts commands disk core es its own may
