use Rattle.std.proofs.lemmas.List.Elements.{All-from_recursion}
use Rattle.hs_core_words.specs.Looking.{shape_of}
use Rattle.hs_settled.proofs.NotedEventLemmas.{all_noted, step_noted}
use Rattle.hs_settled.proofs.NotedOpenLemmas.{opened_noted}
use Rattle.hs_settled.specs.Noted.{StandsFor}
use Rattle.hs_settled.proofs.noted.each_entry_has_its_cause.Goals as goal

pub returns-clause-opened : goal.returns-clause-opened
returns-clause-opened c = λ commands shape limits found moment peers. opened_noted commands shape limits found moment peers

pub returns-clause-event : goal.returns-clause-event
returns-clause-event c = λ commands e moment core its may. step_noted commands e moment core its may

pub returns-clause-events : goal.returns-clause-events
returns-clause-events c = λ commands core es its may. all_noted commands core es its may

pub returns-clause-journal : goal.returns-clause-journal
returns-clause-journal c = λ commands core its. All-from_recursion (StandsFor commands (shape_of core) core.limits core.progress.event_line) core.journal its.journal

pub returns-clause-refused : goal.returns-clause-refused
returns-clause-refused c = λ commands core its. All-from_recursion (StandsFor commands (shape_of core) core.limits core.progress.event_line) core.refused its.refused
