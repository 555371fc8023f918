use Rattle.hs_standing.specs.Start.{IsAwaited}
use Rattle.hs_standing.proofs.StopsListLemmas.{lists_awaited, lists_legal, lists_once, lists_sound, lists_stand}
use Rattle.hs_standing.proofs.lists.fronts_reopen.Goals as goal

pub returns-clause-stands : goal.returns-clause-stands
returns-clause-stands c = λ start stop journal lists some shape took left count fine. lists_stand start journal (IsAwaited start stop journal) lists shape took left some count fine

pub returns-clause-legal : goal.returns-clause-legal
returns-clause-legal c = λ start stop journal lists some shape took left count fine. lists_legal start journal (IsAwaited start stop journal) lists shape took left some count fine

pub returns-clause-sound : goal.returns-clause-sound
returns-clause-sound c = λ start stop journal lists some shape took left count fine. lists_sound start journal (IsAwaited start stop journal) lists shape took left some count fine

pub returns-clause-awaited : goal.returns-clause-awaited
returns-clause-awaited c = λ start stop journal lists some shape took left count fine. lists_awaited start journal (IsAwaited start stop journal) lists shape took left some count fine

pub returns-clause-once : goal.returns-clause-once
returns-clause-once c = λ start stop journal lists some shape took left count fine once. lists_once start journal (IsAwaited start stop journal) lists shape took left some count fine once
