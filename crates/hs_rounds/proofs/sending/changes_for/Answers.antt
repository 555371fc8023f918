use Rattle.std.proofs.Common.{ap, ap₂, ◌∙◌, take}
use Rattle.hs_rounds.proofs.sending.changes_for.Goals as goal

pub returns : goal.returns
returns c = c.from_vec.ensures ∙ c.truncate.ensures.items ∙ ap₂ take (ap (λ limits. limits.blocks) c.greatest-most.ensures) c.in_ok-changes.ensures
