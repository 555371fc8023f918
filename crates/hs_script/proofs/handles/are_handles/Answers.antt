use Rattle.std.proofs.Common.{sym, ◌∙◌}
use Rattle.hs_script.proofs.HandleLemmas.{handles_bad}
use Rattle.hs_script.proofs.handles.are_handles.Goals as goal

pub returns-in-None : goal.returns-in-None
returns-in-None c = sym (c.words.invariant ∙ handles_bad _ _ _ c.in-Some.ensures.words c.in-None.ensures)
