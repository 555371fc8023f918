use Rattle.hs_roots.proofs.RootLemmas.{counted_kept}
use Rattle.hs_roots.proofs.root_set.RootSet.count_new.Goals as goal

pub invariant_of-self : goal.invariant_of-self
invariant_of-self c = rw c.count_all.ensures (counted_kept c.self.inside.records.items c.self.inside.retained c.args.epoch c.self.invariant)
