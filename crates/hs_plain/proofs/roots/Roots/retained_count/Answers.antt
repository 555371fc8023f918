use Rattle.std.proofs.Common.{◌∙◌}
use Rattle.hs_plain.proofs.RootLemmas.{retained_count_is}
use Rattle.hs_plain.proofs.roots.Roots.retained_count.Goals as goal

pub returns : goal.returns
returns c =
    rw (← c.self.view_is) (c.len.ensures.len ∙ retained_count_is c.self.inside.kept.entries c.self.inside.gone.items)
