use Rattle.hs_effects.proofs.EffectLemmas.{listed_named}
use Rattle.hs_effects.proofs.EventLemmas.{open_orderly, step_orderly, steps_orderly}
use Rattle.hs_effects.proofs.logged.operations_wait_for_their_entries.Goals as goal

pub returns-clause-opened : goal.returns-clause-opened
returns-clause-opened c = λ name shape limits found moment. open_orderly name shape limits found moment

pub returns-clause-event : goal.returns-clause-event
returns-clause-event c = λ name core event moment its may. step_orderly name event moment core its may

pub returns-clause-events : goal.returns-clause-events
returns-clause-events c = λ name core events its may. steps_orderly name events core its may

pub returns-clause-named : goal.returns-clause-named
returns-clause-named c = λ name core shard place entry its at. listed_named name core shard place entry its at
