use Rattle.hs_roots.proofs.RootLemmas.{released_kept}
use Rattle.hs_roots.proofs.root_set.RootSet.release.Goals as goal

pub invariant_of-self : goal.invariant_of-self
invariant_of-self c = rw c.forget_released.ensures (released_kept c.self.inside.records.items c.self.inside.retained c.args.epoch c.self.invariant)
