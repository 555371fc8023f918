use Rattle.std.proofs.Common.{◌∙◌}
use Rattle.hs_script.proofs.HandleLemmas.{after_bad}
use Rattle.hs_script.proofs.handles.handles_of.Goals as goal

pub returns-in-None : goal.returns-in-None
returns-in-None c = c.words.invariant ∙ after_bad c.words.handles _ _ _ c.in-Some.ensures.words c.in-None.ensures
