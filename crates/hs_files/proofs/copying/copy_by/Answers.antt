use Rattle.std.proofs.Common.{◌∙◌, sym}
use Rattle.hs_files.proofs.HaltLemmas.{copied_duly, copy_had_first, copy_had_second, copy_stops}
use Rattle.hs_files.proofs.copying.copy_by.Goals as goal

pub returns-in-Some-default-clause-halts : goal.returns-in-Some-default-clause-halts
returns-in-Some-default-clause-halts g c = copy_had_first _ _ _ _ c.in-Some-default.fault (sym c.in-Some-default.is-0 ∙ c.requires.first)

pub returns-in-None-Some-clause-halts : goal.returns-in-None-Some-clause-halts
returns-in-None-Some-clause-halts g c = copy_had_second _ _ _ _ c.in-None-Some.fault (sym c.in-None-Some.is-1 ∙ c.requires.second)

pub returns-in-None-None-clause-halts : goal.returns-in-None-None-clause-halts
returns-in-None-None-clause-halts g c = copy_stops _ _ _ _ _ _ c.copy_root.result c.copy_root.ensures.stopped

pub returns-in-None-None-clause-copied : goal.returns-in-None-None-clause-copied
returns-in-None-None-clause-copied g c = copied_duly _ _ _ _ _ _ _ c.copy_root.result c.copy_root.ensures.copied c.copy_root.ensures.due
