use Rattle.hs_standing.proofs.BegunLemmas.{all_begun, event_begun}
use Rattle.hs_standing.proofs.begun.each_line_was_begun.Goals as goal

pub returns-clause-event : goal.returns-clause-event
returns-clause-event c = λ start stop core event moment going may happened below inside before. event_begun start stop core event moment going may.begins happened below inside before

pub returns-clause-events : goal.returns-clause-events
returns-clause-events c = λ start stop core events going may below inside before. all_begun start stop core events going may below inside before
