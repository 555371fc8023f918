use Rattle.std.proofs.Common.{◌∙◌}
use Rattle.hs_plain.proofs.RootLemmas.{retained_is}
use Rattle.hs_plain.proofs.roots.Roots.retained.Goals as goal

pub returns : goal.returns
returns c =
    rw (← c.self.view_is) (c.copied.ensures ∙ c.get.ensures.value ∙ retained_is c.args.key.now c.self.inside.kept.entries c.self.inside.gone.items c.self.invariant.ascending)
