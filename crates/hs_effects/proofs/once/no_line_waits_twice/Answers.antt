use Rattle.hs_effects.proofs.OnceLemmas.{once}
use Rattle.hs_effects.proofs.once.no_line_waits_twice.Goals as goal

pub returns : goal.returns
returns c = once
